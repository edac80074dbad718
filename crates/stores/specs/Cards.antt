-- What a card holds, and what a write leaves on it, done or cut. Assumes nothing.
use Rattle.std.specs.Prelude.{ℕ, ◌-◌, Bool, true, false, cond, not, ◌&&◌, List, length, replicate, vec_items, ◌==◌, nat_lt, slice_set}
use Rattle.model.specs.Limits.{page_bytes}
use Rattle.model.specs.Store.{judged}
use Rattle.model.specs.declared.answer.Answer.{Answer}
use Rattle.model.specs.declared.answer.Answer.TheVariants.{Done, Cut}
use Rattle.model.specs.declared.answer.CutPoint.{CutPoint}
use Rattle.stores.specs.declared.card.Card.{Card}
use Rattle.stores.specs.Tears.{tear_number}

pub record Medium : Type 0 where
  pub pages : List (List ℕ)
  pub junk : List ℕ
  -- the writes that power will last
  pub left : ℕ
  -- 0, 1 or 2: the page that power fails at is old, new or junk
  pub tear : ℕ
  pub on : Bool
  pub node : ℕ

abbrev pub medium : Card → Medium
medium c = record { pages = vec_items c.pages; junk = c.junk; left = c.left; tear = tear_number c.tear; on = c.on; node = c.node }

abbrev pub zero_page : List ℕ
zero_page = replicate page_bytes 0

-- a card that nothing has happened to yet
abbrev pub off_medium : ℕ → List (List ℕ) → Medium
off_medium node pages = record { pages = pages; junk = zero_page; left = 0; tear = 0; on = false; node = node }

abbrev pub blank_medium : ℕ → ℕ → Medium
blank_medium node count = off_medium node (replicate count zero_page)

-- a restart of the card
abbrev pub turned_on : Medium → ℕ → ℕ → List ℕ → Medium
turned_on m left tear junk = record { pages = m.pages; junk = junk; left = left; tear = tear; on = true; node = m.node }

-- power fails at a write: the page is old, new or junk, but page 0 is never junk
abbrev pub failed : Medium → ℕ → List ℕ → Medium
failed m page bytes = record {
  pages = cond (m.tear == 1) (slice_set m.pages page bytes) (cond (m.tear == 2 && not (page == 0)) (slice_set m.pages page m.junk) m.pages);
  junk = m.junk;
  left = m.left;
  tear = m.tear;
  on = false;
  node = m.node;
}

-- power lasts for a write
abbrev pub landed : Medium → ℕ → List ℕ → Medium
landed m page bytes = record {
  pages = slice_set m.pages page bytes;
  junk = m.junk;
  left = m.left - 1;
  tear = m.tear;
  on = m.on;
  node = m.node;
}

-- a write, to any card
abbrev pub written : Medium → ℕ → List ℕ → Medium
written m page bytes = cond (nat_lt page (length m.pages) && m.on)
    (cond (nat_lt 0 m.left) (landed m page bytes) (failed m page bytes))
    m

-- where a write is cut
abbrev pub cut_at : Medium → ℕ → ℕ → CutPoint
cut_at m row page = record { node = m.node; row = row; page = page }

abbrev pub write_answer : Medium → ℕ → ℕ → Answer
write_answer m row page = judged (nat_lt page (length m.pages)) m.on
    (cond (nat_lt 0 m.left) Done (Cut (cut_at m row page)))

-- a write after which power still lasts
abbrev pub lasts : Medium → ℕ → Bool
lasts m page = nat_lt page (length m.pages) && (m.on && nat_lt 0 m.left)

-- two writes, the second only if power lasts
abbrev pub written_both : Medium → ℕ → List ℕ → ℕ → List ℕ → Medium
written_both m first bytes second more = cond (lasts m first) (written (written m first bytes) second more) (written m first bytes)

abbrev pub write_both_answer : Medium → ℕ → ℕ → List ℕ → ℕ → Answer
write_both_answer m row first bytes second = cond (lasts m first) (write_answer (written m first bytes) row second) (write_answer m row first)
