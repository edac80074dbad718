use Rattle.std.proofs.Common.{◌≡◌, ◌+◌, ◌-◌, ◌++◌, length, take, drop, vec_items, sym, ap, ◌∙◌, arith, length-drop, take_all}
use lib.Seq.{paste}
use Rattle.std.proofs.lemmas.List.{take-append-drop}
use Rattle.std.proofs.lemmas.List.Edits.{take-paste}
use Rattle.sorted_names.proofs.order.close_gap.Goals as goal

pub returns-then-from-to-clause-items : goal.returns-then-from-to-clause-items
returns-then-from-to-clause-items c =
    let all = vec_items c.args.items.now in
    let left = c.len-len.result - c.args.to in
    let rest : length (drop c.args.to all) ≡ left = omega (arith, length-drop c.args.to all) in
    let same : c.len-len.result - (c.args.to - c.args.from) ≡ c.args.from + left = omega arith in
    c.truncate.ensures.items ∙ ap (take (c.len-len.result - (c.args.to - c.args.from))) c.copy_within.ensures.items
    ∙ ap (λ k. take k (paste all c.args.from (drop c.args.to all) left)) same ∙ take-paste all c.args.from (drop c.args.to all) left (omega arith) (omega arith)
    ∙ ap (λ xs. take c.args.from all ++ xs) (take_all left (drop c.args.to all) (omega arith))

pub returns-else-from-to-clause-items : goal.returns-else-from-to-clause-items
returns-else-from-to-clause-items c =
    let all = vec_items c.args.items.now in
    let same : c.args.from ≡ c.args.to = omega arith in
    sym (take-append-drop c.args.from all) ∙ ap (λ k. take c.args.from all ++ drop k all) same
