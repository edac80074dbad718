-- A frame that was written is read back, wherever it stands.
use Rattle.std.proofs.Common.{◌≡◌, ℕ, ◌+◌, ◌<◌, ◌≤◌, true, ltb, leb, List, ◌++◌, length, take, drop, Some, None, Ok, Err, sym, refl, ap, ◌∙◌, subst, arith}
use Rattle.std.proofs.lemmas.List.{drop_at, length-append, take_at}
use Rattle.std.proofs.lemmas.Bool.{cond-true, cond-false, eqb-true, lt-leb, le-ltb}
use Rattle.model.specs.declared.answer.Fault.TheVariants.{HeaderShort, WrongLength, BodyShort}
use Rattle.frames.specs.declared.kind.Kind.{Kind}
use Rattle.frames.specs.declared.kind.Kind.TheVariants.{HandIn, Advance, Fire, Send, Lose, Repeat, Deliver, Pass, Restart, Show, MarkDone}
use Rattle.model.specs.Bytes.{u16_at, u16_bytes}
use Rattle.frames.specs.Calls.{call_of}
use Rattle.frames.specs.Frames.{framed}
use Rattle.frames.specs.Kinds.{fits, kind_number, kind_of}
use Rattle.frames.specs.Reading.{after_header, called, place_after, stands_at}
use Rattle.frames.specs.Writing.{ReadBack}

-- what is known of each kind: its number is read back, and no body is long
pub record Known (k : Kind) : Type 0 where
  pub number : kind_of (u16_at (u16_bytes (kind_number k)) 0) ≡ Some k
  pub short : (n : ℕ) → fits k n ≡ true → n < 65536

known : (k : Kind) → Known k
known HandIn = record { number = refl; short = λ n e. omega (arith, eqb-true n 14 e) }
known Advance = record { number = refl; short = λ n e. omega (arith, eqb-true n 4 e) }
known Fire = record { number = refl; short = λ n e. omega (arith, eqb-true n 1 e) }
known Send = record { number = refl; short = λ n e. omega (arith, eqb-true n 0 e) }
known Lose = record { number = refl; short = λ n e. omega (arith, eqb-true n 1 e) }
known Repeat = record { number = refl; short = λ n e. omega (arith, eqb-true n 1 e) }
known Deliver = record { number = refl; short = λ n e. omega (arith, eqb-true n 1 e) }
known Pass = record { number = refl; short = λ n e. omega (arith, eqb-true n 0 e) }
known Restart = record { number = refl; short = λ n e. omega (arith, eqb-true n 7 e) }
known Show = record { number = refl; short = λ n e. omega (arith, eqb-true n 0 e) }
known MarkDone = record { number = refl; short = λ n e. omega (arith, eqb-true n 6 e) }

module _ (k : Kind) (body : List ℕ) (suits : fits k (length body) ≡ true) (before after : List ℕ) where
  abbrev file : List ℕ
  file = before ++ (framed k body ++ after)

  -- from its place on, the file is the header, the body and the rest
  abbrev rest : List ℕ
  rest = u16_bytes (length body) ++ (u16_bytes (kind_number k) ++ (body ++ after))

  there : drop (length before) file ≡ rest
  there = drop_at before (framed k body ++ after) (length before) refl

  stands : stands_at file (length before) ≡ Some (Ok (k, body))
  stands =
      let some : length before < length file = omega (arith, length-append before (framed k body ++ after)) in
      let size = (known k).short (length body) suits in
      let l : u16_at rest 0 ≡ length body = omega arith in
      let n : kind_of (u16_at rest 2) ≡ Some k = (known k).number in
      let e = there in
      let e0 : u16_at (drop (length before) file) 0 ≡ length body = ap (λ bs. u16_at bs 0) e ∙ l in
      let e2 : kind_of (u16_at (drop (length before) file) 2) ≡ Some k = ap (λ bs. kind_of (u16_at bs 2)) e ∙ n in
      let e4 : drop 4 (drop (length before) file) ≡ body ++ after = ap (λ bs. drop 4 bs) e in
      let long : 4 ≤ length (drop (length before) file) = omega (arith, ap length e) in
      cond-false (leb (length file) (length before)) None _ (lt-leb (length file) (length before) some)
      ∙ cond-false (ltb (length (drop (length before) file)) 4) (Some (Err HeaderShort)) _ (le-ltb (length (drop (length before) file)) 4 long)
      ∙ (λ i. after_header (e2 i) (e0 i) (e4 i))
      ∙ cond-true (fits k (length body)) _ (Some (Err WrongLength)) suits
      ∙ cond-false (ltb (length (body ++ after)) (length body)) (Some (Err BodyShort)) _ (le-ltb (length (body ++ after)) (length body) (omega (arith, length-append body after)))
      ∙ ap (λ bs. Some (Ok (k, bs))) (take_at body after (length body) refl)

pub read_back : (k : Kind) (body : List ℕ) → fits k (length body) ≡ true → ReadBack (call_of k body) (framed k body)
read_back k body suits = record {
  gives = λ before after. ap called (stands k body suits before after);
  passes = λ before after. ap (place_after (before ++ (framed k body ++ after)) (length before)) (stands k body suits before after) ∙ omega arith;
}

-- what was written at the front of a buffer is read back
pub put_back : (k : Kind) (body : List ℕ) → fits k (length body) ≡ true → (buffer after : List ℕ)
    → after ≡ framed k body ++ drop (length (framed k body)) buffer → ReadBack (call_of k body) (take (4 + length body) after)
put_back k body suits buffer after is =
    let e : length (framed k body) ≡ 4 + length body = omega arith in
    subst (λ bs. ReadBack (call_of k body) bs) (sym (ap (λ bs. take (4 + length body) bs) is ∙ take_at (framed k body) _ (4 + length body) e)) (read_back k body suits)
