use Rattle.std.proofs.Common.{nat_le, sym, ap, ◌∙◌, rules}
use Rattle.std.proofs.lemmas.Option.{IfSome_then}
use Rattle.model.specs.Computation.{StateBytes}
use Rattle.computations.proofs.Loaded.{sound_state, attended}
use Rattle.computations.proofs.judging.fire_due.Goals as goal

pub returns : goal.returns
returns g c =
    let m = g.C.Computation in
    let l = g.met.C.Computation.lawful in
    let b : StateBytes c.args.bytes.now = record { size = c.told-bytes; small = c.fits-bytes } in
    let s = sound_state m.operations m.sound l _ b _ c.load-state.ensures in
    let d = c.in_ok-due.ensures s in
    attended m.operations m.sound l _ b _ c.load-state.ensures c.args.w c.in_ok-due.due (sym d) c.then.result
    (c.then.ensures.variant ∙ ap (nat_le c.in_ok-due.due) c.min.ensures)
    (IfSome_then c.then.result c.then.ensures.some (λ x p. search (rules, p)))
