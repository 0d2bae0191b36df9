-- Bytes that are passed over before a tile begins.
use Rattle.std.proofs.Common.{◌≡◌, ◌<◌, ◌+◌, ◌-◌, ◌^◌, ◌∙◌, ℕ, true, false, List, [], ◌++◌, Option, None, Some, append_assoc, append-nil, length, length-append, length-drop, take, drop, slice_index, refl, sym, ap, subst, arith, min, inl, inr, take-append-drop}
use Rattle.std.proofs.lemmas.Bool.{cases_lt}
use Rattle.std.proofs.lemmas.List.{get_or-drop, length-take}
use Rattle.std.proofs.KnownBytes.{Consumes-trans}
use Rattle.std.specs.Io.KnownBytes.{Consumes, IsAtEnd, prepend_known}
use Rattle.row_windows.specs.Seams.{BeginsLine, is_line_end}
use Rattle.tile_source.specs.Finding.{HasBegun}
use Rattle.tile_source.specs.Passing.{IsPassed}
use Rattle.tile_source.specs.declared.cut.Cut.{Cut}

-- all bytes so far were passed over
pub record HasPassed (ahead : List ℕ) (old new : Option (List ℕ)) (from at : ℕ) : Type 0 where
  pub passed : List ℕ
  pub reads : Consumes (prepend_known ahead old) new passed
  pub at_is : at ≡ min (from + length passed) (2 ^ 64 - 1)

-- the front of bytes that were read already
ahead-front : (ahead : List ℕ) (k : ℕ) (old : Option (List ℕ)) → Consumes (prepend_known ahead old) (prepend_known (drop k ahead) old) (take k ahead)
ahead-front ahead k None = tt
ahead-front ahead k (Some x) = ap (λ (l : List ℕ). l ++ x) (sym (take-append-drop k ahead)) ∙ append_assoc (take k ahead) (drop k ahead) x

ahead-all : (ahead : List ℕ) (old : Option (List ℕ)) → Consumes (prepend_known ahead old) old ahead
ahead-all ahead None = tt
ahead-all ahead (Some x) = refl

-- bytes that begin with the end of a line
begins-there : (xs : List ℕ) (k : ℕ) → k < length xs → is_line_end (slice_index xs k) ≡ true → BeginsLine (drop k xs)
begins-there xs k lt line = record { some = omega (arith, lt, length-drop k xs); is = ap is_line_end (get_or-drop k xs 0 0 ∙ ap (slice_index xs) (omega arith)) ∙ line }

-- the tile begins within the bytes that were read already
pub begun-ahead : (c c' : Cut) (ahead : List ℕ) (k : ℕ) (old : Option (List ℕ)) → IsPassed c ahead k c' → c'.is_done ≡ true → HasBegun ahead old old c.at c'.at (drop k ahead)
begun-ahead c c' ahead k old passed done = elim (cases_lt k (length ahead)) [
  | inl below ↦ record {
    passed = take k ahead;
    reads = ahead-front ahead k old;
    at_is = passed.at ∙ ap (λ n. min (c.at + n) (2 ^ 64 - 1)) (omega (arith, below, length-take k ahead));
    begins = inl (begins-there ahead k below (passed.ended below).line);
  }
  | inr above ↦
      let on = (passed.goes_on (omega (arith, above, passed.within))).on in
      let bad : true ≡ false = sym done ∙ on in
      cc bad
]

-- or behind them
pub passed-ahead : (c c' : Cut) (ahead : List ℕ) (k : ℕ) (old : Option (List ℕ)) → IsPassed c ahead k c' → c'.is_done ≡ false → HasPassed ahead old old c.at c'.at
passed-ahead c c' ahead k old passed on = elim (cases_lt k (length ahead)) [
  | inl below ↦ let bad : true ≡ false = sym (passed.ended below).done ∙ on in cc bad
  | inr above ↦ record {
    passed = ahead;
    reads = ahead-all ahead old;
    at_is = passed.at ∙ ap (λ n. min (c.at + n) (2 ^ 64 - 1)) (omega (arith, above, passed.within));
  }
]

-- the same of a piece that is read
piece-front : (a b : Option (List ℕ)) (xs : List ℕ) (k : ℕ) → Consumes a b xs → Consumes a (prepend_known (drop k xs) b) (take k xs)
piece-front None b xs k reads = tt
piece-front (Some x) None xs k reads = reads
piece-front (Some x) (Some y) xs k reads = reads ∙ (ap (λ (l : List ℕ). l ++ y) (sym (take-append-drop k xs)) ∙ append_assoc (take k xs) (drop k xs) y)

pub begun-piece : (f : ℕ) (c c' : Cut) (ahead xs : List ℕ) (k : ℕ) (old a b : Option (List ℕ)) → HasPassed ahead old a f c.at → Consumes a b xs → IsPassed c xs k c' → c'.is_done ≡ true → HasBegun ahead old b f c'.at (drop k xs)
begun-piece f c c' ahead xs k old a b before reads passed done = elim (cases_lt k (length xs)) [
  | inl below ↦ record {
    passed = before.passed ++ take k xs;
    reads = Consumes-trans (prepend_known ahead old) a (prepend_known (drop k xs) b) before.passed (take k xs) before.reads (piece-front a b xs k reads);
    at_is = omega (arith, passed.at, before.at_is, length-append before.passed (take k xs), length-take k xs, below);
    begins = inl (begins-there xs k below (passed.ended below).line);
  }
  | inr above ↦
      let on = (passed.goes_on (omega (arith, above, passed.within))).on in
      let bad : true ≡ false = sym done ∙ on in
      cc bad
]

pub passed-piece : (f : ℕ) (c c' : Cut) (ahead xs : List ℕ) (k : ℕ) (old a b : Option (List ℕ)) → HasPassed ahead old a f c.at → Consumes a b xs → IsPassed c xs k c' → c'.is_done ≡ false → HasPassed ahead old b f c'.at
passed-piece f c c' ahead xs k old a b before reads passed on = elim (cases_lt k (length xs)) [
  | inl below ↦ let bad : true ≡ false = sym (passed.ended below).done ∙ on in cc bad
  | inr above ↦ record {
    passed = before.passed ++ xs;
    reads = Consumes-trans (prepend_known ahead old) a b before.passed xs before.reads reads;
    at_is = omega (arith, passed.at, before.at_is, length-append before.passed xs, passed.within, above);
  }
]

-- at the end of the source nothing begins
none-read : (a b : Option (List ℕ)) (xs : List ℕ) → xs ≡ [] → Consumes a b xs → Consumes a (prepend_known [] b) []
none-read None b xs none reads = tt
none-read (Some x) None xs none reads = reads
none-read (Some x) (Some y) xs none reads = rw none at reads

pub begun-end : (f at : ℕ) (ahead xs : List ℕ) (old a b : Option (List ℕ)) → HasPassed ahead old a f at → xs ≡ [] → Consumes a b xs → IsAtEnd b → HasBegun ahead old b f at []
begun-end f at ahead xs old a b before none reads end = record {
  passed = before.passed;
  reads = subst (Consumes (prepend_known ahead old) (prepend_known [] b)) (append-nil before.passed) (Consumes-trans (prepend_known ahead old) a (prepend_known [] b) before.passed [] before.reads (none-read a b xs none reads));
  at_is = before.at_is;
  begins = inr (refl, end);
}
