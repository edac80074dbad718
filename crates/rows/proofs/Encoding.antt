-- A row's bytes as they are written: each part over zeros, behind the parts before it.
use Rattle.std.proofs.Common.{◌≡◌, ℕ, ◌+◌, ◌-◌, ◌≤◌, List, ◌++◌, length, drop, replicate, sym, ap, ◌∙◌, arith}
use lib.Seq.{paste}
use Rattle.std.proofs.lemmas.List.{append_assoc, append-nil, take_at, drop_at, drop-drop, drop-replicate, replicate-append-replicate, length-append, length-replicate}
use Rattle.std.proofs.lemmas.List.Edits.{paste_all}
use Rattle.rows.specs.Layout.{padded}

-- a part put over zeros, of which it takes so many
pub over_zeros : (pre part : List ℕ) (n at len size : ℕ) → at ≡ length pre → len ≡ length part → len ≤ size → size ≤ n →
    paste (pre ++ replicate n 0) at part len ≡ (pre ++ padded size part) ++ replicate (n - size) 0
unfolding padded
over_zeros pre part n at len size a l s z =
    paste_all (pre ++ replicate n 0) at part len l
    ∙ (λ k. take_at pre (replicate n 0) at (sym a) k ++ (part ++ rest k))
    ∙ ap (λ q. pre ++ (part ++ q)) (ap (λ m. replicate m 0) count ∙ sym (replicate-append-replicate (size - length part) (n - size) 0))
    ∙ ap (λ q. pre ++ q) (sym (append_assoc part (replicate (size - length part) 0) (replicate (n - size) 0)))
    ∙ sym (append_assoc pre (part ++ replicate (size - length part) 0) (replicate (n - size) 0))
  where
    rest : drop (at + len) (pre ++ replicate n 0) ≡ replicate (n - len) 0
    rest =
        sym (drop-drop len at (pre ++ replicate n 0)) ∙ ap (drop len) (drop_at pre (replicate n 0) at (sym a)) ∙ drop-replicate len n 0

    count : n - len ≡ (size - length part) + (n - size)
    count = omega arith

pub padded_full : (size : ℕ) (bs : List ℕ) → length bs ≡ size → padded size bs ≡ bs
unfolding padded
padded_full size bs e =
    let z : size - length bs ≡ 0 = omega arith in
    ap (λ n. bs ++ replicate n 0) z ∙ append-nil bs

pub length-padded : (size : ℕ) (bs : List ℕ) → length bs ≤ size → length (padded size bs) ≡ size
unfolding padded
length-padded size bs l = length-append bs (replicate (size - length bs) 0) ∙ ap (λ n. length bs + n) (length-replicate (size - length bs) 0) ∙ omega arith
