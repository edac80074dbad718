use Rattle.std.proofs.Common.{◌≡◌, ◌-◌, cond, ◌++◌, take, is_ok, vec_items, sym, ap, ◌∙◌, arith}
use Rattle.std.proofs.lemmas.List.{append-nil}
use Rattle.frames.specs.Calls.{frame_of}
use Rattle.assembly.proofs.Room.{if_grown, put, refused, short}
use Rattle.assembly.proofs.script.add_frame.Goals as goal

pub returns-in-Ok : goal.returns-in-Ok
returns-in-Ok c =
    let size = c.in-Ok.size in
    let held = c.write_frame.new.buffer in
    let had = vec_items c.args.script.now in
    let whole : size - 0 ≡ size = omega arith in
    let bytes = ap (λ n. take n held) whole ∙ put (frame_of c.args.call) _ held size c.in-Ok.ensures.answer c.in-Ok.ensures.after in
    if_grown c.extend_from_slice.result (vec_items c.extend_from_slice.new.self) _ had
    (c.extend_from_slice.ensures.items ∙ ap (λ s. cond (is_ok c.extend_from_slice.result) (had ++ s) had) bytes)

pub returns-in-Err : goal.returns-in-Err
returns-in-Err c =
    let had = vec_items c.args.script.now in
    let none = refused (frame_of c.args.call) 18 c.in-Err.field-0 (short c.args.call) c.in-Err.ensures.answer in
    sym (ap (λ s. had ++ s) none ∙ append-nil had)
