-- Where each field of a row stands in its bytes, and that a row is read back from them.
use Rattle.std.proofs.Common.{◌≡◌, ℕ, suc, ◌+◌, ◌-◌, ◌*◌, ◌<◌, ◌≤◌, min, List, [], ◌∷◌, ◌++◌, map, length, get_or, take, drop, replicate, sym, refl, ap, ◌∙◌, arith}
use lib.Seq.{paste}
use Rattle.std.specs.List.{range_with_len, flat_map}
use Rattle.std.proofs.lemmas.List.FromFn.{fill_by_all}
use Rattle.std.proofs.lemmas.List.{append_assoc, take_at, drop_at, length-append, length-replicate, replicate-append-replicate}
use Rattle.model.specs.Limits.{most_pending, most_names, page_bytes}
use Rattle.model.specs.Row.{Row}
use Rattle.model.specs.declared.record.Name.{Name}
use Rattle.model.specs.declared.record.Production.{Production}
use Rattle.model.specs.Bytes.{u32_bytes, u16_at, u32_at}
use Rattle.rows.specs.Layout.{encoded, padded, pending_bytes, name_bytes, pending_size, name_size, state_at, pending_at, names_at, rest_at, RowFits}
use Rattle.rows.specs.Reading.{row_in, pending_in, names_in, production_in, name_in, LaidOut}
use Rattle.rows.proofs.EntryLoops.{length-joined}
use Rattle.rows.proofs.Encoding.{length-padded, padded_full, over_zeros}
use Rattle.rows.proofs.Places.{u16_at-from, u32_at-from, u16_at-high, further, behind, entry_from, zeros_first, zeros_only}

-- the parts of a row behind its state
pending_part : Row → List ℕ
pending_part r = padded (most_pending * pending_size) (flat_map pending_bytes r.pending)

names_part : Row → List ℕ
names_part r = padded (most_names * name_size) (flat_map name_bytes r.names)

last_part : List ℕ
last_part = replicate (page_bytes - rest_at) 0

module _ (r : Row) (state-size : length r.state ≡ 32) where
  behind_state : drop pending_at (encoded r) ≡ pending_part r ++ (names_part r ++ last_part)
  unfolding encoded pending_part names_part last_part
  behind_state = drop_at r.state (pending_part r ++ (names_part r ++ last_part)) 32 state-size

  state_there : take 32 (drop state_at (encoded r)) ≡ r.state
  unfolding encoded pending_part names_part last_part
  state_there = take_at r.state (pending_part r ++ (names_part r ++ last_part)) 32 state-size

module _ (r : Row) (fits : RowFits r) where
  size : length r.state ≡ 32
  size = fits.state.size

  pending_long : length (flat_map pending_bytes r.pending) ≡ pending_size * length r.pending
  pending_long = length-joined pending_bytes pending_size (λ p. refl) r.pending

  names_long : length (flat_map name_bytes r.names) ≡ name_size * length r.names
  names_long = length-joined name_bytes name_size (λ n. refl) r.names

  pending_part_long : length (pending_part r) ≡ most_pending * pending_size
  unfolding pending_part
  pending_part_long = length-padded (most_pending * pending_size) (flat_map pending_bytes r.pending) (omega (arith, pending_long, fits.few_pending))

  names_part_long : length (names_part r) ≡ most_names * name_size
  unfolding names_part
  names_part_long = length-padded (most_names * name_size) (flat_map name_bytes r.names) (omega (arith, names_long, fits.few_names))

  behind_pending : drop names_at (encoded r) ≡ names_part r ++ last_part
  behind_pending =
      further (encoded r) (pending_part r ++ (names_part r ++ last_part)) pending_at (most_pending * pending_size) (behind_state r size)
      ∙ drop_at (pending_part r) (names_part r ++ last_part) (most_pending * pending_size) pending_part_long

  -- an entry stands at its place, with something behind it
  pending_entry : (i : ℕ) (d : Production) → i < length r.pending →
      (t : List ℕ) × (drop (pending_at + pending_size * i) (encoded r) ≡ pending_bytes (get_or r.pending i d) ++ t)
  unfolding pending_part padded
  pending_entry i d h =
      let t = replicate (most_pending * pending_size - length (flat_map pending_bytes r.pending)) 0 ++ (names_part r ++ last_part) in (
        flat_map pending_bytes (drop (suc i) r.pending) ++ t,
        further (encoded r) _ pending_at (pending_size * i) (behind_state r size ∙ append_assoc (flat_map pending_bytes r.pending) _ (names_part r ++ last_part))
            ∙ entry_from pending_bytes pending_size (λ p. refl) r.pending i d t h,
      )

  name_entry : (i : ℕ) (d : Name) → i < length r.names →
      (t : List ℕ) × (drop (names_at + name_size * i) (encoded r) ≡ name_bytes (get_or r.names i d) ++ t)
  unfolding names_part padded
  name_entry i d h =
      let t = replicate (most_names * name_size - length (flat_map name_bytes r.names)) 0 ++ last_part in (
        flat_map name_bytes (drop (suc i) r.names) ++ t,
        further (encoded r) _ names_at (name_size * i) (behind_pending ∙ append_assoc (flat_map name_bytes r.names) _ last_part)
            ∙ entry_from name_bytes name_size (λ n. refl) r.names i d t h,
      )

  pending_there : (i : ℕ) (d : Production) → i < length r.pending → production_in (encoded r) (pending_at + pending_size * i) ≡ get_or r.pending i d
  pending_there i d h =
      let p = get_or r.pending i d in
      let f = fits.pending i d h in
      let e = pending_entry i d h in
      let at = pending_at + pending_size * i in
      let s = u32_at-from (encoded r) at p.serial _ f.serial e.1 in
      let t = u32_at-from (encoded r) (at + 4) p.time _ f.time (further (encoded r) _ at 4 e.1) in
      let a = u16_at-from (encoded r) (at + 8) p.amount _ f.amount (further (encoded r) _ at 8 e.1) in
      λ k. record { serial = s k; time = t k; amount = a k }

  name_there : (i : ℕ) (d : Name) → i < length r.names → name_in (encoded r) (names_at + name_size * i) ≡ get_or r.names i d
  name_there i d h =
      let n = get_or r.names i d in
      let f = fits.names i d h in
      let e = name_entry i d h in
      let at = names_at + name_size * i in
      let b = u16_at-from (encoded r) at n.sender _ f.sender e.1 in
      let s = u32_at-from (encoded r) (at + 2) n.serial _ f.serial (further (encoded r) _ at 2 e.1) in
      let t = u32_at-from (encoded r) (at + 6) n.time _ f.time (further (encoded r) _ at 6 e.1) in
      λ k. record { sender = b k; serial = s k; time = t k }

  amount_short : (i : ℕ) → i < length r.pending → u16_at (encoded r) (pending_at + pending_size * i + 10) ≡ 0
  amount_short i h =
      let d : Production = record { serial = 0; time = 0; amount = 0 } in
      let e = pending_entry i d h in
      let at = pending_at + pending_size * i in
      let a = (get_or r.pending i d).amount in
      let f = (fits.pending i d h).amount in
      u16_at-high (encoded r) (at + 10) a e.0 f (further (encoded r) _ at 10 e.1)

  next_there : u32_at (encoded r) 0 ≡ r.next
  unfolding encoded
  next_there = u32_at-from (encoded r) 0 r.next _ fits.next refl

  pending_count_there : get_or (encoded r) 4 0 ≡ length r.pending
  unfolding encoded
  pending_count_there = refl

  name_count_there : get_or (encoded r) 5 0 ≡ length r.names
  unfolding encoded
  name_count_there = refl

  spare_6 : get_or (encoded r) 6 0 ≡ 0
  unfolding encoded
  spare_6 = refl

  spare_7 : get_or (encoded r) 7 0 ≡ 0
  unfolding encoded
  spare_7 = refl

  pending_back : pending_in (encoded r) ≡ r.pending
  unfolding pending_in
  pending_back =
      let d : Production = record { serial = 0; time = 0; amount = 0 } in
      let f : ℕ → Production = λ i. production_in (encoded r) (pending_at + pending_size * i) in
      let n : min most_pending (length r.pending) ≡ length r.pending = omega (arith, fits.few_pending) in
      ap (λ m. map f (range_with_len 0 m)) (ap (min most_pending) pending_count_there ∙ n)
      ∙ sym (fill_by_all f r.pending (length r.pending) d refl (λ k h. sym (pending_there k d h)))

  names_back : names_in (encoded r) ≡ r.names
  unfolding names_in
  names_back =
      let d : Name = record { sender = 0; serial = 0; time = 0 } in
      let f : ℕ → Name = λ i. name_in (encoded r) (names_at + name_size * i) in
      let n : min most_names (length r.names) ≡ length r.names = omega (arith, fits.few_names) in
      ap (λ m. map f (range_with_len 0 m)) (ap (min most_names) name_count_there ∙ n)
      ∙ sym (fill_by_all f r.names (length r.names) d refl (λ k h. sym (name_there k d h)))

  pub row_back : row_in (encoded r) ≡ r
  row_back = λ k. record { next = next_there k; state = state_there r size k; pending = pending_back k; names = names_back k }

  pub long : length (encoded r) ≡ page_bytes
  unfolding encoded pending_part names_part last_part
  long =
      let a = length-append r.state (pending_part r ++ (names_part r ++ last_part)) in
      let b = length-append (pending_part r) (names_part r ++ last_part) in
      let c = length-append (names_part r) last_part in
      let z : length last_part ≡ 24 = length-replicate {A = ℕ} 24 0 in
      omega (arith, size, pending_part_long, names_part_long)

  zero_behind_pending : (i : ℕ) → pending_at + pending_size * length r.pending ≤ i → i < names_at → get_or (encoded r) i 0 ≡ 0
  unfolding pending_part padded
  zero_behind_pending i a b =
      let t = names_part r ++ last_part in
      let z = most_pending * pending_size - length (flat_map pending_bytes r.pending) in
      let e = further (encoded r) _ pending_at (pending_size * length r.pending) (behind_state r size ∙ append_assoc (flat_map pending_bytes r.pending) (replicate z 0) t)
      ∙ drop_at (flat_map pending_bytes r.pending) (replicate z 0 ++ t) (pending_size * length r.pending) pending_long in
      behind (encoded r) (replicate z 0 ++ t) (pending_at + pending_size * length r.pending) i a e
      ∙ zeros_first z (i - (pending_at + pending_size * length r.pending)) t (omega (arith, pending_long))

  zero_behind_names : (i : ℕ) → names_at + name_size * length r.names ≤ i → get_or (encoded r) i 0 ≡ 0
  unfolding names_part padded last_part
  zero_behind_names i a =
      let z = most_names * name_size - length (flat_map name_bytes r.names) in
      let e = further (encoded r) _ names_at (name_size * length r.names) (behind_pending ∙ append_assoc (flat_map name_bytes r.names) (replicate z 0) last_part)
      ∙ drop_at (flat_map name_bytes r.names) (replicate z 0 ++ last_part) (name_size * length r.names) names_long
      ∙ replicate-append-replicate z 24 0 in
      behind (encoded r) (replicate (z + 24) 0) (names_at + name_size * length r.names) i a e
      ∙ zeros_only (z + 24) (i - (names_at + name_size * length r.names))

  pub laid_out : LaidOut r (encoded r)
  laid_out =
      record {
        size = long;
        next = next_there;
        pending_count = pending_count_there;
        name_count = name_count_there;
        state = state_there r size;
        pending = pending_there;
        names = name_there;
        zero_6 = spare_6;
        zero_7 = spare_7;
        amounts_short = amount_short;
        zero_behind_pending = zero_behind_pending;
        zero_behind_names = zero_behind_names;
      }

-- two rows with the same bytes are one
pub encoded_once : (r s : Row) → RowFits r → RowFits s → encoded r ≡ encoded s → r ≡ s
encoded_once r s f g e = sym (row_back r f) ∙ ap row_in e ∙ row_back s g

-- the four parts that are written, over zeros, are the row's bytes
pub encoded_by : (r : Row) (n : ℕ) (z h a b c d : List ℕ) → n ≡ page_bytes → length r.state ≡ 32 → length r.pending ≤ most_pending →
    length r.names ≤ most_names → z ≡ replicate n 0 → h ≡ u32_bytes r.next ++ length r.pending ∷ length r.names ∷ 0 ∷ 0 ∷ [] →
    a ≡ paste z 0 h (length h) → b ≡ paste a state_at r.state (length r.state) →
    c ≡ paste b pending_at (flat_map pending_bytes r.pending) (pending_size * length r.pending) →
    d ≡ paste c names_at (flat_map name_bytes r.names) (name_size * length r.names) → d ≡ encoded r
unfolding encoded
encoded_by r n z h a b c d page size few_pending few_names ez eh ea eb ec ed =
    let p = flat_map pending_bytes r.pending in
    let m = flat_map name_bytes r.names in
    let pl : length p ≡ pending_size * length r.pending = length-joined pending_bytes pending_size (λ x. refl) r.pending in
    let ml : length m ≡ name_size * length r.names = length-joined name_bytes name_size (λ x. refl) r.names in
    let hl : length h ≡ 8 = ap length eh in
    let sl : length (h ++ r.state) ≡ 40 = length-append h r.state ∙ omega arith in
    let ql : length ((h ++ r.state) ++ padded 48 p) ≡ 88 =
    length-append (h ++ r.state) (padded 48 p) ∙ (λ k. sl k + length-padded 48 p (omega arith) k) in
    let ha : a ≡ h ++ replicate (n - 8) 0 =
    ea ∙ ap (λ q. paste q 0 h (length h)) ez ∙ over_zeros [] h n 0 (length h) 8 refl refl (omega arith) (omega arith)
    ∙ ap (λ q. q ++ replicate (n - 8) 0) (padded_full 8 h hl) in
    let hb : b ≡ (h ++ r.state) ++ replicate (n - 8 - 32) 0 =
    eb ∙ ap (λ q. paste q 8 r.state (length r.state)) ha
    ∙ over_zeros h r.state (n - 8) 8 (length r.state) 32 (sym hl) refl (omega arith) (omega arith)
    ∙ ap (λ q. (h ++ q) ++ replicate (n - 8 - 32) 0) (padded_full 32 r.state size) in
    let hc : c ≡ ((h ++ r.state) ++ padded 48 p) ++ replicate (n - 8 - 32 - 48) 0 =
    ec ∙ ap (λ q. paste q 40 p (pending_size * length r.pending)) hb
    ∙ over_zeros (h ++ r.state) p (n - 8 - 32) 40 (pending_size * length r.pending) 48 (sym sl) (sym pl) (omega arith) (omega arith) in
    let hd : d ≡ (((h ++ r.state) ++ padded 48 p) ++ padded 400 m) ++ replicate (n - 8 - 32 - 48 - 400) 0 =
    ed ∙ ap (λ q. paste q 88 m (name_size * length r.names)) hc
    ∙ over_zeros ((h ++ r.state) ++ padded 48 p) m (n - 8 - 32 - 48) 88 (name_size * length r.names) 400 (sym ql) (sym ml) (omega arith) (omega arith) in
    let last : n - 8 - 32 - 48 - 400 ≡ 24 = omega arith in
    hd ∙ append_assoc ((h ++ r.state) ++ padded 48 p) (padded 400 m) _ ∙ append_assoc (h ++ r.state) (padded 48 p) _ ∙ append_assoc h r.state _
    ∙ (λ k. eh k ++ (r.state ++ (padded 48 p ++ (padded 400 m ++ replicate (last k) 0))))
