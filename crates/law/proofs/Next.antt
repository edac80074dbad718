-- The world at the end of a run, and the world that one more call makes of it. Assumes nothing.
use Rattle.std.proofs.Common.{◌≡◌, ℕ, zero, suc, cond, eqb, List, [], ◌∷◌, ◌++◌, length, take, drop, Some, None, filter, Option, sym, refl, ap, ◌∙◌, inl, inr, append-nil, arith}
use Rattle.std.proofs.lemmas.List.Elements.{filter-append}
use Rattle.std.proofs.lemmas.Bool.{eq-eqb, ne_eqb}
use Rattle.std.specs.List.{remove, slice_get}
use Rattle.model.specs.Answers.{outcome_answer}
use Rattle.model.specs.Row.{Row}
use Rattle.model.specs.declared.answer.Outcome.{Outcome}
use Rattle.model.specs.declared.record.Message.{Message}
use Rattle.model.specs.declared.record.Production.{Production}
use Rattle.model.specs.declared.record.Record.{Record}
use Rattle.law.specs.Lists.{Mem}
use Rattle.law.specs.Node.{with_row, wrote}
use Rattle.law.specs.Pair.{Kits, Pair}
use Rattle.law.specs.Run.{Event, Deed, all_taken, taken, made, landed, taken_as, made_as, landed_as, added}
use Rattle.law.proofs.Lists.{mem_split}
use Rattle.law.proofs.Moves.{Same}
use Rattle.law.proofs.World.{Lane, World}

pub drop_length : {X : Type 0} (xs ys : List X) → drop (length xs) (xs ++ ys) ≡ ys
drop_length [] ys = refl
drop_length (x ∷ xs) ys = drop_length xs ys

pub drop_all : {X : Type 0} (xs : List X) → drop (length xs) xs ≡ []
drop_all [] = refl
drop_all (x ∷ xs) = drop_all xs

mem_take : {X : Type 0} (x : X) (i : ℕ) (xs : List X) → Mem x (take i xs) → Mem x xs
mem_take x zero xs m = absurd m
mem_take x (suc i) [] m = m
mem_take x (suc i) (y ∷ xs) (inl e) = inl e
mem_take x (suc i) (y ∷ xs) (inr m) = inr (mem_take x i xs m)

mem_drop : {X : Type 0} (x : X) (i : ℕ) (xs : List X) → Mem x (drop i xs) → Mem x xs
mem_drop x zero xs m = m
mem_drop x (suc i) [] m = m
mem_drop x (suc i) (y ∷ xs) m = inr (mem_drop x i xs m)

pub mem_removed : {X : Type 0} (x : X) (xs : List X) (i : ℕ) → Mem x (remove xs i) → Mem x xs
mem_removed x xs i m =
    elim (mem_split x (take i xs) (drop (suc i) xs) m) [ inl k ↦ mem_take x i xs k | inr k ↦ mem_drop x (suc i) xs k ]

some_same : {X : Type 0} (x y : X) → ◌≡◌ {A = Option X} (Some x) (Some y) → x ≡ y
some_same x y e = cc

pub none_some : {X : Type 0} (x : X) → ◌≡◌ {A = Option X} None (Some x) → ⊥
none_some x e = let z : ◌≡◌ {A = ℕ} 0 1 = cc in omega arith

pub nth_mem : {X : Type 0} (x : X) (xs : List X) (i : ℕ) → slice_get xs i ≡ Some x → Mem x xs
nth_mem x [] i e = absurd (none_some x e)
nth_mem x (y ∷ xs) zero e = inl (sym (some_same y x e))
nth_mem x (y ∷ xs) (suc i) e = inr (nth_mem x xs i e)

abbrev pub lane_of : Kits → List Event → Pair → ℕ → Lane
lane_of kits es p s = record {
  crow = p.collector.row s;
  srow = p.spotter.row s;
  took = taken kits s es;
  made = made kits s es;
  landed = landed kits s es;
}

abbrev pub world_of : Kits → List Event → Pair → World
world_of kits es p =
    record { lane = lane_of kits es p; cw = p.collector.w; sw = p.spotter.w; link = p.link }

-- a lane is told by its parts
pub lane_path
    : (L : Lane) {crow srow : Row} {took : List Record} {made landed : List Production}
    → crow ≡ L.crow → srow ≡ L.srow → took ≡ L.took → made ≡ L.made → landed ≡ L.landed
    → ◌≡◌ {A = Lane} (record { crow = crow; srow = srow; took = took; made = made; landed = landed }) L
lane_path L a b c d e = λ i. record { crow = a i; srow = b i; took = c i; made = d i; landed = e i }

pub row_at : (s : ℕ) (new : Row) (rows : ℕ → Row) → with_row s new rows s ≡ new
row_at s new rows = ap (λ b. cond b new (rows s)) (eq-eqb s s refl)

pub row_off : (s q : ℕ) (new : Row) (rows : ℕ → Row) → (q ≡ s → ⊥) → with_row s new rows q ≡ rows q
row_off s q new rows ne = ap (λ b. cond b new (rows q)) (ne_eqb q s ne)

module _ (kits : Kits) (es : List Event) (p : Pair) where
  abbrev pub grown
      : (ℕ → Row)
      → (ℕ → Row) → List Record → (ℕ → List Production) → (ℕ → List Production) → ℕ → ℕ → List Message → World
  grown crow srow T M D cw sw link = record {
    lane = λ s. record {
      crow = crow s;
      srow = srow s;
      took = filter (λ r. eqb r.stop s) (all_taken kits es ++ T);
      made = made kits s es ++ M s;
      landed = landed kits s es ++ D s;
    };
    cw = cw;
    sw = sw;
    link = link;
  }

  -- the world after a call that does a deed and comes to an outcome and a pair
  abbrev pub next_world : Deed → Outcome × Pair → World
  next_world deed r =
      grown r.1.collector.row r.1.spotter.row
      (taken_as (wrote kits.collector p.collector.power (outcome_answer r.0)) deed)
      (λ s. made_as (wrote kits.collector p.collector.power (outcome_answer r.0)) (added s p r.1) deed)
      (λ s. landed_as (wrote kits.spotter p.spotter.power (outcome_answer r.0)) s deed)
      r.1.collector.w r.1.spotter.w r.1.link

  pub took_none : (s : ℕ) (T : List Record) → T ≡ [] → filter (λ r. eqb r.stop s) (all_taken kits es ++ T) ≡ taken kits s es
  took_none s T e =
      ap (λ xs. filter (λ r. eqb r.stop s) (all_taken kits es ++ xs)) e ∙
      ap (λ xs. filter (λ r. eqb r.stop s) xs) (append-nil (all_taken kits es))

  pub none_added : {X : Type 0} (xs ys : List X) → ys ≡ [] → xs ++ ys ≡ xs
  none_added xs ys e = ap (λ zs. xs ++ zs) e ∙ append-nil xs

  -- a record taken stands last at its stop, and at no other
  pub took_at_lem
      : (r : Record)
      → filter (λ x. eqb x.stop r.stop) (all_taken kits es ++ (r ∷ [])) ≡ taken kits r.stop es ++ (r ∷ [])
  took_at_lem r =
      filter-append (λ x. eqb x.stop r.stop) (all_taken kits es) (r ∷ []) ∙
      ap (λ b. taken kits r.stop es ++ cond b (r ∷ []) []) (eq-eqb r.stop r.stop refl)

  pub took_off
      : (q : ℕ) (r : Record)
      → (q ≡ r.stop → ⊥) → filter (λ x. eqb x.stop q) (all_taken kits es ++ (r ∷ [])) ≡ taken kits q es
  took_off q r ne =
      filter-append (λ x. eqb x.stop q) (all_taken kits es) (r ∷ []) ∙
      (ap (λ b. taken kits q es ++ cond b (r ∷ []) []) (ne_eqb r.stop q (λ e. ne (sym e))) ∙ append-nil (taken kits q es))

  -- nothing has happened at any stop
  pub same_grown
      : (crow srow : ℕ → Row) (T : List Record) (M D : ℕ → List Production) (cw sw : ℕ) (link : List Message)
      → ((s : ℕ) → crow s ≡ p.collector.row s) → ((s : ℕ) → srow s ≡ p.spotter.row s) → T ≡ [] → ((s : ℕ) → M s ≡ [])
      → ((s : ℕ) → D s ≡ []) → Same (world_of kits es p) (grown crow srow T M D cw sw link)
  same_grown crow srow T M D cw sw link a b t m d s =
      lane_path
      (lane_of kits es p s) (a s) (b s) (took_none s T t) (none_added (made kits s es) (M s) (m s))
      (none_added (landed kits s es) (D s) (d s))
