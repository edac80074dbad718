use Rattle.std.proofs.Common.{◌≡◌, ℕ, ◌+◌, ◌<◌, ◌≤◌, List, ◌++◌, length, get_or, drop, string_bytes, sym, refl, ap, ◌∙◌, append_assoc, append-nil, arith}
use Rattle.std.proofs.lemmas.List.{drop_more, drop_all}
use Rattle.model.specs.declared.answer.Answer.TheVariants.{Done}
use Rattle.model.specs.declared.answer.Outcome.{Outcome}
use Rattle.model.specs.declared.answer.Outcome.TheVariants.{Plain}
use Rattle.account.specs.Account.{event_line, events_from}
use Rattle.account.proofs.event_lines.Goals as goal

-- one line more
more
    : (os : List Outcome) (i : ℕ) (d : Outcome) (text line : List ℕ)
    → i < length os → line ≡ event_line (i + 1) (get_or os i d)
    → text ++ events_from (i + 1) (drop i os) ≡ (text ++ line) ++ events_from (i + 1 + 1) (drop (i + 1) os)
more os i d text line below is =
    ap (λ (xs : List Outcome). text ++ events_from (i + 1) xs) (drop_more os i d below)
    ∙ ap (λ (l : List ℕ). text ++ (l ++ events_from (i + 1 + 1) (drop (i + 1) os))) (sym is)
    ∙ sym (append_assoc text line (events_from (i + 1 + 1) (drop (i + 1) os)))

pub loop-i-preserved : goal.loop-i-preserved
loop-i-preserved c =
    let os = c.args.outcomes.now in
    let i = c.loop-i.i in
    let text = string_bytes c.loop-i.text in
    let below : i < length os = omega arith in
    ap (λ (t : List ℕ). t ++ events_from (i + 1 + 1) (drop (i + 1) os)) c.in_ok-write.ensures.bytes
    ∙ sym (more os i (Plain Done) text _ below refl)
    ∙ c.loop-i.invariant

pub returns : goal.returns
returns c =
    let os = c.args.outcomes.now in
    let i = c.loop-i.i in
    let past : length os ≤ i = omega arith in
    sym (append-nil (string_bytes c.loop-i.text))
    ∙ sym (ap (λ (xs : List Outcome). string_bytes c.loop-i.text ++ events_from (i + 1) xs) (drop_all i os past))
    ∙ c.loop-i.invariant
