-- What one read leaves of a tile.
use Rattle.std.proofs.Common.{◌≡◌, ◌≤◌, ◌+◌, ◌-◌, ◌^◌, ◌∙◌, ℕ, zero, suc, true, false, List, [], ◌∷◌, ◌++◌, Option, None, Some, append_assoc, append-nil, length, length-append, take, refl, sym, ap, arith, min, inl, inr}
use Rattle.std.proofs.lemmas.Bool.{cases_Bool, cases_lt}
use Rattle.std.proofs.lemmas.List.{length-take, take-append-le, take-take, take_all}
use Rattle.std.proofs.Math.Seq.{take-append-add}
use Rattle.std.specs.Io.KnownBytes.{Consumes, IsAtEnd, Keeps, prepend_known}
use Rattle.csv_rows.specs.Places.{place_after}
use Rattle.tile_source.specs.Left.{body_left, lack, left_of, zeros}
use Rattle.tile_source.specs.Passing.{IsPassed}
use Rattle.tile_source.specs.Scan.{cut_len, cut_text}
use Rattle.tile_source.specs.declared.cut.Cut.{Cut}
use Rattle.tile_source.proofs.Scans.{cut-found, cut-on}

-- bytes at the front were given
pub give-left : (old new given : List ℕ) (left : Option (List ℕ)) → old ≡ given ++ new → Consumes (prepend_known old left) (prepend_known new left) given
give-left old new given None is = tt
give-left old new given (Some x) is = ap (λ (l : List ℕ). l ++ x) is ∙ append_assoc given new x

-- no bytes were given
pub keeps-none : (a b : Option (List ℕ)) (buf : List ℕ) (n : ℕ) → n ≡ 0 → Consumes a b (take n buf) → Keeps a b
keeps-none None b buf n none reads = tt
keeps-none (Some x) None buf n none reads = reads
keeps-none (Some x) (Some y) buf n none reads = sym (rw none at reads)

-- what stays as it was leaves the same of a tile
pub keeps-left : (h : List ℕ) (c : Cut) (a b : Option (List ℕ)) → Keeps a b → Keeps (prepend_known h (body_left c a)) (prepend_known h (body_left c b))
keeps-left h c None b keeps = tt
keeps-left h c (Some x) None keeps = keeps
keeps-left h c (Some x) (Some y) keeps = ap (λ (l : List ℕ). h ++ left_of c l) keeps

pub same-left : (a : Option (List ℕ)) → Consumes a a []
same-left None = tt
same-left (Some x) = refl

-- a scan that has ended leaves nothing
pub done-left : (h : List ℕ) (c : Cut) (a : Option (List ℕ)) → h ≡ [] → c.is_done ≡ true → IsAtEnd (prepend_known h (body_left c a))
done-left h c None none done = tt
done-left h c (Some x) none done = rw (none, done) refl

zeros-none : (n : ℕ) → n ≡ 0 → zeros n ≡ []
unfolding zeros
zeros-none zero is = refl
zeros-none (suc n) is = absurd (omega (arith, is))

cut-none : (p : _) (least : ℕ) → cut_text p least [] ≡ []
unfolding cut_len
cut-none p zero = refl
cut-none p (suc n) = refl

-- nor does one at the end of a source that has its size
pub end-left : (h : List ℕ) (c : Cut) (a : Option (List ℕ)) → h ≡ [] → c.size ≤ c.at → IsAtEnd a → IsAtEnd (prepend_known h (body_left c a))
end-left h c None none high end = tt
end-left h c (Some x) none high end = elim (cases_Bool c.is_done) [
  | inl done ↦ rw (none, done) refl
  | inr on ↦
      let lacks : lack c.size c.at [] ≡ [] = zeros-none (c.size - (c.at + 0)) (omega (arith, high)) in
      rw (none, end, on) (ap (cut_text c.place (c.goal - c.at)) lacks ∙ cut-none c.place (c.goal - c.at))
]

-- the bytes that a source lacks are the same when more of it were read
same-lack : (size at at' n : ℕ) (xs ys : List ℕ) → size ≤ 2 ^ 64 - 1 → at' ≡ min (at + length xs) (2 ^ 64 - 1) → lack size at (xs ++ ys) ≡ lack size at' ys
same-lack size at at' n xs ys high is = ap zeros (omega (arith, high, is, length-append xs ys))

-- bytes that a scan passed over are those that it leaves less
pub left-step : (c c' : Cut) (xs ys : List ℕ) (n : ℕ) → c.is_done ≡ false → IsPassed c xs n c' → left_of c (xs ++ ys) ≡ take n xs ++ left_of c' ys
left-step c c' xs ys n going passed = elim (cases_lt n (length xs)) [
  | inl below ↦
      let p = c.place in
      let least = c.goal - c.at in
      let w = ys ++ lack c.size c.at (xs ++ ys) in
      let found : cut_len p least (xs ++ w) ≡ n = cut-found p least xs w (omega (arith, below, passed.count)) ∙ sym passed.count in
      let le : n ≤ length xs = omega (arith, below) in
      rw (going, (passed.ended below).done, append_assoc xs ys (lack c.size c.at (xs ++ ys)), found, append-nil) (take-append-le n xs w le)
  | inr above ↦
      let p = c.place in
      let least = c.goal - c.at in
      let all : n ≡ length xs = omega (arith, above, passed.within) in
      let on = passed.goes_on all in
      let w = ys ++ lack c.size c.at (xs ++ ys) in
      let at : c'.at ≡ min (c.at + length xs) (2 ^ 64 - 1) = passed.at ∙ ap (λ k. min (c.at + k) (2 ^ 64 - 1)) all in
      let same : w ≡ ys ++ lack c'.size c'.at ys = ap (λ (l : List ℕ). ys ++ l) (same-lack c.size c.at c'.at n xs ys (omega (arith, passed.big)) at ∙ ap (λ k. lack k c'.at ys) (sym passed.size)) in
      let less : least - length xs ≡ c'.goal - c'.at = omega (arith, passed.high, at, passed.goal) in
      let len : cut_len p least (xs ++ w) ≡ length xs + cut_len c'.place (c'.goal - c'.at) w = cut-on p least xs w (sym passed.count ∙ all)
      ∙ (ap (λ k. length xs + cut_len (place_after p xs) k w) less ∙ ap (λ q. length xs + cut_len q (c'.goal - c'.at) w) (sym on.place)) in
      let front : take n xs ≡ xs = take_all n xs (omega (arith, all)) in
      rw (going, on.on, append_assoc xs ys (lack c.size c.at (xs ++ ys)), len, take-append-add xs w (cut_len c'.place (c'.goal - c'.at) w), front) (ap (λ (l : List ℕ). xs ++ cut_text c'.place (c'.goal - c'.at) l) same)
]

-- what was read of a source and passed over is what is left less of a tile
pub read-left : (h : List ℕ) (c c' : Cut) (a b : Option (List ℕ)) (buf : List ℕ) (n m : ℕ) → h ≡ [] → c.is_done ≡ false → n ≤ length buf
    → Consumes a b (take n buf) → IsPassed c (take n buf) m c' → Consumes (prepend_known h (body_left c a)) (prepend_known h (body_left c' b)) (take m buf)
read-left h c c' None b buf n m none going fits reads passed = tt
read-left h c c' (Some x) None buf n m none going fits reads passed = reads
read-left h c c' (Some x) (Some y) buf n m none going fits reads passed =
    let few : m ≤ n = omega (arith, passed.within, length-take n buf) in
    rw (none, reads, ← take-take m n buf few) (left-step c c' (take n buf) y m going passed)

-- and where none was given, nothing is left
pub read-end : (h : List ℕ) (c c' : Cut) (b : Option (List ℕ)) (buf : List ℕ) (n m : ℕ) → h ≡ [] → n ≤ length buf → IsPassed c (take n buf) m c'
    → (n ≡ 0 → c.size ≤ c.at) → (n ≡ 0 → IsAtEnd b) → m ≡ 0 → IsAtEnd (prepend_known h (body_left c' b))
read-end h c c' b buf n m none fits passed short end empty = elim (cases_lt m (length (take n buf))) [
  | inl below ↦ done-left h c' b none (passed.ended below).done
  | inr above ↦
      let no : n ≡ 0 = omega (arith, above, empty, fits, length-take n buf) in
      let high : c'.size ≤ c'.at = omega (arith, short no, passed.size, passed.at, passed.big, empty) in
      end-left h c' b none high (end no)
]

pub no-length : (xs : List ℕ) → length xs ≡ 0 → xs ≡ []
no-length [] is = refl
no-length (x ∷ xs) is = absurd (omega (arith, is))
