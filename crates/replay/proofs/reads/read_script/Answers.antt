use Rattle.std.proofs.Common.{◌<◌, List, length, Some, vec_items, sym, ap, ◌∙◌, subst, arith}
use Rattle.frames.specs.Handed.{EventOffset, handed_call, place_of}
use Rattle.frames.specs.Reading.{call_at, next_place}
use Rattle.model.specs.declared.call.Call.{Call}
use Rattle.replay.proofs.Reading.{SoFar, start, ends, one_call, one_fault}
use Rattle.replay.proofs.reads.read_script.Goals as goal

pub loop-next-init : goal.loop-next-init
loop-next-init c = (
  c.new-reader.ensures.script,
  start c.args.script.now (place_of c.new-reader.result) (vec_items c.new-calls.result) c.new-reader.ensures.place c.new-calls.ensures.items,
)

pub loop-next-preserved : goal.loop-next-preserved
loop-next-preserved c =
    let script = c.args.script.now in
    let place = place_of c.loop-next.reader in
    let same = c.loop-next.invariant.0 in
    let had = c.in-Some.ensures in
    let inside : place < length script = omega (arith, had.forward.0, had.forward.1, ap length same) in
    let pushed = c.in_ok-push-in-Ok.ensures.items in (
      had.script ∙ same,
      subst (λ (cs : List Call). SoFar script (place_of c.next_call.new.self) cs) (sym pushed)
          (one_call script place (vec_items c.loop-next.calls) c.loop-next.invariant.1 (place_of c.next_call.new.self) c.in-Ok.event.call inside
          (ap (λ s. call_at s place) (sym same) ∙ sym had.call ∙ ap (λ x. handed_call (Some x)) c.in-Ok.is)
          (had.place ∙ ap (λ s. next_place s place) same) had.forward.0),
    )

pub returns-in-Err : goal.returns-in-Err
returns-in-Err c =
    let script = c.args.script.now in
    let place = place_of c.loop-next.reader in
    let same = c.loop-next.invariant.0 in
    let had = c.in-Some.ensures in
    let misfit = c.in-Err.misfit in
    let inside : place < length script = omega (arith, had.forward.0, had.forward.1, ap length same) in
    let whole = one_fault script place (vec_items c.loop-next.calls) c.loop-next.invariant.1 misfit.fault inside (ap (λ s. call_at s place) (sym same) ∙ sym had.call ∙ ap (λ x. handed_call (Some x)) c.in-Err.is) in
    record {
      calls = whole.calls_are;
      fault = ap (λ i. Some (misfit.fault, i)) (subst (λ x. EventOffset place (Some x)) c.in-Err.is had.offset) ∙ whole.fault_is;
    }

pub returns : goal.returns
returns c =
    let place = place_of c.loop-next.reader in
    let whole = ends c.args.script.now place (vec_items c.loop-next.calls) c.loop-next.invariant.1 (ap (λ s. call_at s place) (sym c.loop-next.invariant.0) ∙ sym c.in_default.ensures.call) in
    record { calls = whole.calls_are; fault = whole.fault_is }
