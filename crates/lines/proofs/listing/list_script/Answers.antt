use Rattle.std.proofs.Common.{◌≡◌, ◌+◌, ◌≤◌, ◌++◌, length, Some, string_bytes, sym, ap, ◌∙◌, subst, arith, rules}
use Rattle.std.proofs.iter.Serving.{serving}
use Rattle.std.specs.Iterator.Adapters.{enumerate_count, enumerate_source}
use Rattle.frames.specs.Handed.{EventOffset, handed_call, place_of, script_of}
use Rattle.frames.specs.Reading.{call_at, next_place}
use Rattle.model.specs.Answers.{fault_number}
use Rattle.lines.specs.Listing.{entry_of, fault_of}
use Rattle.lines.proofs.Loop.{SoFar, start, ends, one_call, one_fault}
use Rattle.lines.proofs.listing.list_script.Goals as goal
use Rattle.lines.proofs.listing.list_script.Goals.{in-Ok+in_ok-line-in-Ok, in-Err+in_ok-line-in-Err}

pub loop-i-init : goal.loop-i-init
loop-i-init c =
    let same = ap enumerate_source c.into_iter-i-iterator.ensures.into_iter_gives ∙ c.enumerate-i-items.ensures.source in (
      grind serving,
      search rules,
      ap script_of same ∙ c.new.ensures.script,
      start c.args.script.now _ _ (string_bytes c.new-text.result) (ap place_of same ∙ c.new.ensures.place)
          (ap enumerate_count c.into_iter-i-iterator.ensures.into_iter_gives ∙ c.enumerate-i-items.ensures.count) c.new-text.ensures.bytes,
    )

step : (c : goal.After-drop-line-in-loop-i)
    → SoFar c.args.script.now (place_of (enumerate_source c.next.new.self)) (enumerate_count c.loop-i.i-iterator + 1) (string_bytes c.push_str.new.self)
step c =
    let script = c.args.script.now in
    let count = enumerate_count c.loop-i.i-iterator in
    let place = place_of (enumerate_source c.loop-i.i-iterator) in
    let text = string_bytes c.loop-i.text in
    let line = string_bytes c.match-next-2.line in
    let after = place_of (enumerate_source c.next.new.self) in
    let had = c.in-Some.ensures.steps.0 in
    let first = c.in-Some.ensures.steps.1 in
    let same = c.loop-i.invariant.2 in
    let so_far = c.loop-i.invariant.3 in
    let pushed : string_bytes c.push_str.new.self ≡ text ++ line = c.in_ok-push_str.ensures.bytes ∙ ap (λ t. text ++ t) c.as_str.ensures.value in
    let within : after ≤ length script = omega (arith, had.forward.1, ap length same) in
    elim c.match-next-2.branch [
      | in-Ok+in_ok-line-in-Ok w ↦
          one_call script place count text after line (string_bytes c.push_str.new.self) pushed had.forward.0 within so_far w.in-Ok.event.call
          (ap (λ s. call_at s place) (sym same) ∙ sym had.call ∙ ap (λ x. handed_call (Some x)) w.in-Ok.is)
          (had.place ∙ ap (λ s. next_place s place) same)
          (ap string_bytes w.line-is ∙ w.in_ok-line-in-Ok.ensures ∙ ap (λ n. entry_of (n + 1) w.in-Ok.event.offset w.in-Ok.event.call) first
          ∙ ap (λ i. entry_of (count + 1) i w.in-Ok.event.call) (subst (λ x. EventOffset place (Some x)) w.in-Ok.is had.offset))
      | in-Err+in_ok-line-in-Err w ↦
          one_fault script place count text after line (string_bytes c.push_str.new.self) pushed had.forward.0 within so_far w.in-Err.misfit.fault
          (ap (λ s. call_at s place) (sym same) ∙ sym had.call ∙ ap (λ x. handed_call (Some x)) w.in-Err.is)
          (had.place ∙ ap (λ s. next_place s place) same)
          (ap string_bytes w.line-is ∙ w.in_ok-line-in-Err.ensures ∙ ap (λ n. fault_of n w.in-Err.misfit.offset) w.from.ensures
          ∙ ap (λ i. fault_of (fault_number w.in-Err.misfit.fault) i) (subst (λ x. EventOffset place (Some x)) w.in-Err.is had.offset))
    ]

pub loop-i-preserved : goal.loop-i-preserved
loop-i-preserved c =
    let steps = c.in-Some.ensures.steps in (
      search rules,
      search rules,
      steps.0.script ∙ c.loop-i.invariant.2,
      subst (λ n. SoFar c.args.script.now (place_of (enumerate_source c.next.new.self)) n (string_bytes c.push_str.new.self)) (sym steps.2) (step c),
    )

pub returns : goal.returns
returns c =
    let place = place_of (enumerate_source c.loop-i.i-iterator) in
    ends c.args.script.now place (enumerate_count c.loop-i.i-iterator) (string_bytes c.loop-i.text) c.loop-i.invariant.3
    (ap (λ s. call_at s place) (sym c.loop-i.invariant.2) ∙ sym c.in-None.ensures.steps.0.call)
