-- What reading a row of a store promises, of what the store means before (s) and after (t). Assumes nothing.
use Rattle.std.specs.Prelude.{◌≡◌, ℕ, ◌<◌, true, List, [], length, Some, Option, slice_index_or}
use Rattle.model.specs.Store.{Stored}

-- where the row is the page of something that can be said, that was read
pub record PageRead {X : Type 0} (Fits : X → Type 0) (page : X → List ℕ) (s t : Stored) (row : ℕ) (r : Option X) : Type 0 where
  pub means : t ≡ s
  pub value : (x : X) → s.power.on ≡ true → row < length s.rows → slice_index_or s.rows row [] ≡ page x → Fits x → r ≡ Some x
