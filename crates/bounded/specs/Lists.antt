-- The list that a bounded list stands for. Assumes nothing.
use Rattle.std.specs.Prelude.{ℕ, cond, List, [], ◌∷◌, ◌++◌, length, take, Result, Ok, Err, nat_lt}
use Rattle.bounded.specs.declared.list.Bounded.{Bounded}

abbrev pub listed : {T : Type 0} {N : ℕ} → Bounded T N → List T
listed b = take b.count b.items

-- an item pushed where there is room for n, and what is answered: the item comes back if there is none
abbrev pub pushed : {T : Type 0} → ℕ → T → List T → List T
pushed n x xs = cond (nat_lt (length xs) n) (xs ++ x ∷ []) xs

abbrev pub push_result : {T : Type 0} → ℕ → T → List T → Result Unit T
push_result n x xs = cond (nat_lt (length xs) n) (Ok tt) (Err x)
