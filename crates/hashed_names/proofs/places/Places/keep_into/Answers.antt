use Rattle.std.proofs.Common.{◌≡◌, ◌+◌, cond, length, sym, ap, ◌∙◌, subst}
use Rattle.hashed_names.specs.Places.{slots_of}
use Rattle.hashed_names.specs.Rebuilding.{Rebuilt}
use Rattle.hashed_names.proofs.Keeping.{Going, going_none, going_free, going_without, going_with, gone_through}
use Rattle.hashed_names.proofs.places.Places.keep_into.Goals as goal
use Rattle.hashed_names.proofs.places.Places.keep_into.Goals.{then-insert, else-insert}

pub loop-slot-init : goal.loop-slot-init
loop-slot-init c = going_none _ _ _ 2048 c.clear.ensures

pub loop-slot-preserved-in_default : goal.loop-slot-preserved-in_default
loop-slot-preserved-in_default c = going_free c.loop-slot.invariant c.loop-slot-test.true c.in_default.is

pub loop-slot-preserved-then-is_below : goal.loop-slot-preserved-then-is_below
loop-slot-preserved-then-is_below c = going_without c.loop-slot.invariant c.loop-slot-test.true c.in-Some.taken c.in-Some.is (sym c.if-is_below.ensures)

pub loop-slot-preserved : goal.loop-slot-preserved
loop-slot-preserved c =
    let size : length c.deref-slot-items.result.now ≡ 2048 = c.deref-slot-items.ensures.len ∙ c.args.self.now.long in
    let count : c.if-insert.count ≡ cond c.insert.result (c.loop-slot.count + 1) c.loop-slot.count =
    elim c.if-insert.branch [
      | then-insert w ↦ w.count-is ∙ ap (λ b. cond b (c.loop-slot.count + 1) c.loop-slot.count) (sym w.if-insert.true)
      | else-insert w ↦ w.count-is ∙ ap (λ b. cond b (c.loop-slot.count + 1) c.loop-slot.count) (sym w.if-insert.false)
    ]
    in
    subst (Going c.deref-slot-items.result.now c.args.stop c.args.floor (c.loop-slot.slot-index + 1) (slots_of c.insert.new.self)) (sym count)
    (going_with c.loop-slot.invariant c.loop-slot-test.true c.in-Some.taken size c.in-Some.is (sym c.if-is_below.ensures) c.insert.ensures)

pub returns : goal.returns
returns c =
    subst (λ xs. Rebuilt xs c.args.stop c.args.floor (slots_of c.loop-slot.other) c.loop-slot.count) c.deref-slot-items.ensures.value
    (gone_through c.loop-slot.invariant c.loop-slot-test.false)
