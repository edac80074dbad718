-- All pages come by the one `resize`.
use Rattle.std.proofs.Common.{◌≡◌, ℕ, ◌-◌, List, [], take, ◌++◌, replicate, vec_items, vec_len, ap, ◌∙◌, arith}
use Rattle.std.proofs.Math.Seq.{take-nil}
use Rattle.stores.specs.Cards.{off_medium, zero_page}
use Rattle.stores.proofs.card.Card.blank.Goals as goal

grown : (n l : ℕ) (was : List (List ℕ)) (x : List ℕ) → was ≡ [] → l ≡ 0 → take n was ++ replicate (n - l) x ≡ replicate n x
grown n l was x none e = ap (λ (p : List (List ℕ)). take n p ++ replicate (n - l) x) none ∙ ap (λ (p : List (List ℕ)). p ++ replicate (n - l) x) (take-nil n)
    ∙ ap (λ i. replicate i x) (let h : n - l ≡ n = omega arith in h)

pub returns : goal.returns
returns c =
    let was = c.in_ok-pages.pages in
    let n = c.from-count.result in
    let e : vec_items c.resize.new.self ≡ take n was.items ++ replicate (n - vec_len was) zero_page = c.in_ok-resize.ensures.items in
    c.new.ensures ∙ ap (off_medium c.args.node) (e ∙ grown n (vec_len was) was.items zero_page c.in_ok-pages.ensures.items c.in_ok-pages.ensures.len ∙ ap (λ i. replicate i zero_page) c.from-count.ensures)
