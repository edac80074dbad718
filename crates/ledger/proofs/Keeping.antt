-- A commit of a row leaves a store that keeps the node after it. Assumes nothing.
use Rattle.std.proofs.Common.{◌≡◌, ℕ, ◌<◌, ◌≤◌, Bool, true, false, cond, ◌&&◌, List, [], length, get_or, set, sym, refl, ap, ◌∙◌, subst, inl, inr, arith, length-set}
use Rattle.std.proofs.lemmas.List.{get_or-set_same, get_or-set_other}
use Rattle.std.proofs.lemmas.Bool.{cases_eq, cond-true, eq-eqb, ne_eqb, lt-ltb, and_from}
use Rattle.model.specs.Limits.{stops, page_bytes, last_time}
use Rattle.model.specs.Power.{Power, commit_answer, renewed, spent}
use Rattle.model.specs.Row.{Row}
use Rattle.model.specs.Store.{Stored, row_fits, store_answer, committed}
use Rattle.model.specs.declared.answer.Answer.{Answer}
use Rattle.law.specs.Node.{Kit, Node, Free, commit_row, commit_watermark, with_row}
use Rattle.rows.specs.Layout.{encoded_watermark}
use Rattle.ledger.specs.Kept.{Stands, Kept}

-- a row more, or not, in the store and in the node alike
pub with_row_lem
    : (b : Bool) (s : Stored) (n : Node) (q : ℕ) (new : Row) (bytes : List ℕ) (p : Power) (queue : List ℕ)
    → Kept s n
    → q < stops
    → Stands bytes new
    → Kept (record { rows = cond b (set s.rows q bytes) s.rows; power = p }) (record { row = cond b (with_row q new n.row) n.row; w = n.w; power = p; queue = queue })
with_row_lem false s n q new bytes p queue k within stands =
    record {
      count = k.count;
      row = k.row;
      watermark = k.watermark;
      watermark_fits = k.watermark_fits;
      power = refl;
    }
with_row_lem true s n q new bytes p queue k within stands =
    record {
      count = length-set s.rows q bytes ∙ k.count;
      row = λ r h.
          elim (cases_eq r q) [
            | inl same ↦
                subst (λ (b : Bool). Stands (get_or (set s.rows q bytes) r []) (cond b new (n.row r))) (sym (eq-eqb r q same))
                (subst (λ (x : ℕ). Stands (get_or (set s.rows q bytes) x []) new) (sym same)
                (subst (λ (bs : List ℕ). Stands bs new) (sym (get_or-set_same s.rows q bytes [] (omega (arith, k.count)))) stands))
            | inr other ↦
                subst (λ (b : Bool). Stands (get_or (set s.rows q bytes) r []) (cond b new (n.row r))) (sym (ne_eqb r q other))
                (subst (λ (bs : List ℕ). Stands bs (n.row r)) (sym (get_or-set_other s.rows q r bytes [] other)) (k.row r h))
          ];
      watermark = get_or-set_other s.rows q stops bytes [] (λ e. omega (arith, e)) ∙ k.watermark;
      watermark_fits = k.watermark_fits;
      power = refl;
    }

-- another watermark, or not, in the store and in the node alike
pub with_watermark
    : (b : Bool) (s : Stored) (n : Node) (w : ℕ) (bytes : List ℕ) (p : Power)
    → Kept s n
    → w ≤ last_time
    → bytes ≡ encoded_watermark w
    → Kept (record { rows = cond b (set s.rows stops bytes) s.rows; power = p }) (record { row = n.row; w = cond b w n.w; power = p; queue = n.queue })
with_watermark false s n w bytes p k small is =
    record {
      count = k.count;
      row = k.row;
      watermark = k.watermark;
      watermark_fits = k.watermark_fits;
      power = refl;
    }
with_watermark true s n w bytes p k small is =
    record {
      count = length-set s.rows stops bytes ∙ k.count;
      row = λ r h.
          subst (λ (bs : List ℕ). Stands bs (n.row r)) (sym (get_or-set_other s.rows stops r bytes [] (λ e. omega (arith, e)))) (k.row r h);
      watermark = get_or-set_same s.rows stops bytes [] (omega (arith, k.count)) ∙ is;
      watermark_fits = small;
      power = refl;
    }

-- a commit that is in range, of a store that is on
pub is_in_range
    : (s : Stored) (q : ℕ) (bytes : List ℕ)
    → q < length s.rows
    → length bytes ≡ page_bytes
    → s.power.on ≡ true
    → (row_fits s q bytes && s.power.on) ≡ true
is_in_range s q bytes within size on =
    and_from _ _ (and_from _ _ (lt-ltb _ _ within) (eq-eqb _ _ size)) on

module _ (kit : Kit) (free : Free) (s t : Stored) (q : ℕ) (bytes : List ℕ) (a : Answer) where
  -- power and answer after a commit in range, and the store after it
  rows_after : Power → Stored
  rows_after p = record { rows = cond (renewed kit.turn p) (set s.rows q bytes) s.rows; power = spent kit.cost free.owed p }

  done
      : length bytes ≡ page_bytes
      → a ≡ store_answer kit.cost (free.point q) s q bytes
      → t ≡ committed kit.cost kit.turn free.owed s q bytes
      → (n : Node)
      → Kept s n
      → n.power.on ≡ true
      → q < 33
      → (a ≡ commit_answer kit.cost (free.point q) n.power) × (t ≡ rows_after n.power)
  unfolding rows_after
  done size answers means n k on within =
      let on-s : s.power.on ≡ true = ap (λ (p : Power). p.on) k.power ∙ on in
      let there : q < length s.rows = omega (arith, k.count) in
      let fits = is_in_range s q bytes there size on-s in
      let parts : row_fits s q bytes ≡ true = and_from _ _ (lt-ltb _ _ there) (eq-eqb _ _ size) in
      (answers ∙ cond-true _ _ _ parts ∙ cond-true _ _ _ on-s ∙ ap (commit_answer kit.cost (free.point q)) k.power, means ∙ cond-true _ _ _ fits ∙ ap rows_after k.power)

  -- what a store promises of a commit is what the ledger promises of a row
  pub row_committed
      : (new : Row)
      → Stands bytes new
      → length bytes ≡ page_bytes
      → a ≡ store_answer kit.cost (free.point q) s q bytes
      → t ≡ committed kit.cost kit.turn free.owed s q bytes
      → (n : Node)
      → Kept s n
      → n.power.on ≡ true
      → q < stops
      → (a ≡ (commit_row kit free q new n).0) × Kept t (commit_row kit free q new n).1
  unfolding rows_after
  row_committed new stands size answers means n k on within =
      let d = done size answers means n k on (omega arith) in (
        d.0,
        subst (λ (x : Stored). Kept x (commit_row kit free q new n).1) (sym d.1)
            (with_row_lem (renewed kit.turn n.power) s n q new bytes (spent kit.cost free.owed n.power) (commit_row kit free q new n).1.queue k within stands),
      )

module _ (kit : Kit) (free : Free) (s t : Stored) (bytes : List ℕ) (a : Answer) where
  -- and of the watermark
  pub watermark_committed
      : (w : ℕ)
      → bytes ≡ encoded_watermark w
      → length bytes ≡ page_bytes
      → a ≡ store_answer kit.cost (free.point stops) s stops bytes
      → t ≡ committed kit.cost kit.turn free.owed s stops bytes
      → (n : Node)
      → Kept s n
      → n.power.on ≡ true
      → (a ≡ (commit_watermark kit free w n).0) × (w ≤ last_time → Kept t (commit_watermark kit free w n).1)
  unfolding rows_after
  watermark_committed w is size answers means n k on =
      let d = done kit free s t stops bytes a size answers means n k on (omega arith) in (
        d.0,
        λ small. subst (λ (x : Stored). Kept x (commit_watermark kit free w n).1) (sym d.1)
            (with_watermark (renewed kit.turn n.power) s n w bytes (spent kit.cost free.owed n.power) k small is),
      )
