use Rattle.std.proofs.Common.{◌≡◌, ◌≤◌, sym, rules, ◌∙◌}
use Rattle.model.specs.Computation.{StateBytes}
use Rattle.model.specs.declared.answer.Answer.TheVariants.{Done}
use Rattle.computations.proofs.Loaded.{sound_state, takes, taken}
use Rattle.computations.proofs.judging.consider.Goals as goal

pub take-requires : goal.take-requires
take-requires g c =
    let m = g.C.Computation in
    let l = g.met.C.Computation.lawful in
    let b : StateBytes c.args.bytes.now = record { size = c.told-bytes; small = c.fits-bytes } in
    let s = sound_state m.operations m.sound l _ b _ c.load-state.ensures in
    let few : c.args.given.now.amount ≤ 65535 = search rules in
    let d : c.admit.result ≡ Done = search rules in
    takes m.operations m.sound l _ b _ c.load-state.ensures _ _ _ c.args.given.now few (sym (c.admit.ensures s) ∙ d)

pub returns : goal.returns
returns g c =
    let m = g.C.Computation in
    let l = g.met.C.Computation.lawful in
    let b : StateBytes c.args.bytes.now = record { size = c.told-bytes; small = c.fits-bytes } in
    let s = sound_state m.operations m.sound l _ b _ c.load-state.ensures in
    let few : c.args.given.now.amount ≤ 65535 = search rules in
    let d : c.admit.result ≡ Done = search rules in
    taken m.operations m.sound l _ b _ c.load-state.ensures _ _ _ c.args.given.now few (sym (c.admit.ensures s) ∙ d) _ c.take.ensures
