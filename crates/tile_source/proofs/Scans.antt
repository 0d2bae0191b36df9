-- A scan for the first seam, as more bytes come.
use Rattle.std.proofs.Common.{◌≡◌, ◌≢◌, ◌<◌, ◌≤◌, ◌+◌, ◌-◌, ◌∙◌, ℕ, zero, suc, true, false, List, [], ◌∷◌, ◌++◌, length, take, drop, slice_index, refl, sym, ap, subst, arith, min, inl, inr}
use Rattle.std.specs.Prelude.{not}
use Rattle.std.proofs.lemmas.Bool.{cases_Bool, cases_lt}
use Rattle.std.proofs.lemmas.List.{get_or-drop, length-drop, take_all, take_rest}
use Rattle.std.proofs.Math.Seq.{take-add}
use denote.Enum.Bare.{sameb}
use Rattle.csv_rows.specs.contracts.place.Place.{the_type}
use Rattle.csv_rows.specs.Places.{place_after}
use Rattle.csv_rows.specs.declared.place.Place.{Place}
use Rattle.csv_rows.specs.declared.place.Place.TheVariants as place
use Rattle.csv_rows.proofs.Scans.{place-append}
use Rattle.row_windows.specs.Seams.{is_line_end}
use Rattle.tile_source.specs.Scan.{IsFirst, cut_len, is_seam}

-- the first seam ends a scan that may end anywhere
pub first-len : (p : Place) (bytes : List ℕ) (n : ℕ) → IsFirst p bytes n → cut_len p 0 bytes ≡ n
unfolding cut_len place_after
first-len p [] n f = omega (arith, f.within)
first-len p (c ∷ rest) zero f = let s : is_seam p c ≡ true = f.seam (omega arith) in rw s refl
first-len p (c ∷ rest) (suc m) f =
    let no : is_seam p c ≡ false = f.before 0 (omega arith) in
    let later : IsFirst (place_after p (c ∷ [])) rest m = record {
      within = omega (arith, f.within);
      before = λ k lt. f.before (suc k) (omega arith);
      seam = λ lt. f.seam (omega arith);
    } in
    rw no (ap suc (first-len (place_after p (c ∷ [])) rest m later))

-- this many bytes are passed over at first
pub cut-sure : (p : Place) (least : ℕ) (bytes : List ℕ) → least ≤ length bytes → cut_len p least bytes ≡ least + cut_len (place_after p (take least bytes)) 0 (drop least bytes)
unfolding cut_len place_after
cut-sure p zero [] le = refl
cut-sure p zero (c ∷ rest) le = omega arith
cut-sure p (suc n) [] le = absurd (omega (arith, le))
cut-sure p (suc n) (c ∷ rest) le =
    let later = cut-sure (place_after p (c ∷ [])) n rest (omega (arith, le)) in
    ap suc later ∙ omega arith

-- or all of them
pub cut-all : (p : Place) (least : ℕ) (bytes : List ℕ) → length bytes ≤ least → cut_len p least bytes ≡ length bytes
unfolding cut_len
cut-all p zero [] le = refl
cut-all p (suc n) [] le = refl
cut-all p zero (c ∷ rest) le = absurd (omega (arith, le))
cut-all p (suc n) (c ∷ rest) le = ap suc (cut-all (place_after p (c ∷ [])) n rest (omega (arith, le)))

-- a scan that ends within some bytes ends there whatever comes after them
pub cut-found : (p : Place) (least : ℕ) (xs ys : List ℕ) → cut_len p least xs < length xs → cut_len p least (xs ++ ys) ≡ cut_len p least xs
unfolding cut_len
cut-found p least [] ys lt = absurd (omega (arith, lt))
cut-found p zero (c ∷ xs) ys lt = elim (cases_Bool (is_seam p c)) [
  | inl e ↦ rw e refl
  | inr e ↦ let later = rw e at lt in rw e (ap suc (cut-found (place_after p (c ∷ [])) 0 xs ys (omega (arith, later))))
]
cut-found p (suc n) (c ∷ xs) ys lt = ap suc (cut-found (place_after p (c ∷ [])) n xs ys (omega (arith, lt)))

-- and one that does not goes on behind them
pub cut-on : (p : Place) (least : ℕ) (xs ys : List ℕ) → cut_len p least xs ≡ length xs → cut_len p least (xs ++ ys) ≡ length xs + cut_len (place_after p xs) (least - length xs) ys
unfolding cut_len place_after
cut-on p zero [] ys all = omega arith
cut-on p (suc n) [] ys all = let same : suc n - 0 ≡ suc n = omega arith in rw same (omega arith)
cut-on p zero (c ∷ xs) ys all = elim (cases_Bool (is_seam p c)) [
  | inl e ↦ let no = rw e at all in absurd (omega (arith, no))
  | inr e ↦
      let later = rw e at all in
      let same : 0 - length xs ≡ 0 - suc (length xs) = omega arith in
      rw e (ap suc (cut-on (place_after p (c ∷ [])) 0 xs ys (omega (arith, later)) ∙ ap (λ n. length xs + cut_len (place_after (place_after p (c ∷ [])) xs) n ys) same) ∙ omega arith)
]
cut-on p (suc n) (c ∷ xs) ys all =
    let same : n - length xs ≡ suc n - suc (length xs) = omega arith in
    ap suc (cut-on (place_after p (c ∷ [])) n xs ys (omega (arith, all)) ∙ ap (λ k. length xs + cut_len (place_after (place_after p (c ∷ [])) xs) k ys) same) ∙ omega arith

-- a seam, by what is known of its byte and of the place
pub seam-is : (p : Place) (c : ℕ) → is_line_end c ≡ true → p ≢ place.Quoted → is_seam p c ≡ true
seam-is place.Quoted c line outside = absurd (outside refl)
seam-is place.Opens c line outside = rw line refl
seam-is place.Inside c line outside = rw line refl

pub no-line : (p : Place) (c : ℕ) → is_line_end c ≡ false → is_seam p c ≡ false
no-line p c other = rw other refl

pub no-outside : (p : Place) (c : ℕ) → p ≡ place.Quoted → is_seam p c ≡ false
no-outside p c is = rw is (elim (cases_Bool (is_line_end c)) [ inl e ↦ rw e refl | inr e ↦ rw e refl ])

pub is-line : (p : Place) (c : ℕ) → is_seam p c ≡ true → is_line_end c ≡ true
is-line p c h = elim (cases_Bool (is_line_end c)) [ inl e ↦ e | inr e ↦ let bad = rw e at h in cc bad ]

pub is-outside : (p : Place) (c : ℕ) → is_seam p c ≡ true → p ≢ place.Quoted
is-outside p c h = λ is. let no : false ≡ true = sym (no-outside p c is) ∙ h in cc no

-- by the test of a place
pub outside-by : (p : Place) → not (sameb the_type p place.Quoted) ≡ true → p ≢ place.Quoted
outside-by place.Quoted h = cc
outside-by place.Opens h = λ is. cc is
outside-by place.Inside h = λ is. cc is

-- none below one byte more
pub none-more : (p : Place) (bytes : List ℕ) (at : ℕ) → ((k : ℕ) → k < at → is_seam (place_after p (take k bytes)) (slice_index bytes k) ≡ false)
    → is_seam (place_after p (take at bytes)) (slice_index bytes at) ≡ false → (k : ℕ) → k < at + 1 → is_seam (place_after p (take k bytes)) (slice_index bytes k) ≡ false
none-more p bytes at none here = λ k lt. elim (cases_lt k at) [
  | inl below ↦ none k below
  | inr above ↦ let same : at ≡ k = omega arith in subst (λ n. is_seam (place_after p (take n bytes)) (slice_index bytes n) ≡ false) same here
]

-- a scan of some bytes passes over the first ones, and then goes on to the first seam
pub pass-count : (p : Place) (least : ℕ) (bytes : List ℕ) (sure n : ℕ) → sure ≡ min least (length bytes) → IsFirst (place_after p (take sure bytes)) (drop sure bytes) n → cut_len p least bytes ≡ sure + n
pass-count p least bytes sure n is first = elim (cases_lt (length bytes) least) [
  | inl above ↦
      let all : sure ≡ length bytes = omega (arith, is, above) in
      let none : n ≡ 0 = omega (arith, first.within, length-drop sure bytes, all) in
      cut-all p least bytes (omega (arith, above)) ∙ omega (arith, all, none)
  | inr below ↦
      let same : sure ≡ least = omega (arith, is, below) in
      let first' = subst (λ k. IsFirst (place_after p (take k bytes)) (drop k bytes) n) same first in
      cut-sure p least bytes below ∙ (ap (λ k. least + k) (first-len (place_after p (take least bytes)) (drop least bytes) n first') ∙ omega (arith, same))
]

-- its place behind them
pub pass-place : (p : Place) (bytes : List ℕ) (sure n : ℕ) → sure + n ≡ length bytes → place_after (place_after p (take sure bytes)) (take n (drop sure bytes)) ≡ place_after p bytes
pass-place p bytes sure n all =
    let front : take (sure + n) bytes ≡ bytes = take_all (sure + n) bytes (omega (arith, all)) in
    sym (place-append p (take sure bytes) (take n (drop sure bytes))) ∙ ap (place_after p) (sym (take-add sure n bytes) ∙ front)

-- and the byte at which it ends
pub pass-line : (p : Place) (bytes : List ℕ) (sure n : ℕ) → IsFirst p (drop sure bytes) n → sure + n < length bytes → is_line_end (slice_index bytes (sure + n)) ≡ true
pass-line p bytes sure n first lt =
    let seam = first.seam (omega (arith, lt, length-drop sure bytes)) in
    ap is_line_end (sym (get_or-drop sure bytes n 0)) ∙ is-line (place_after p (take n (drop sure bytes))) (slice_index (drop sure bytes) n) seam

-- the stretch that it goes through then
pub pass-first : (p start : Place) (bytes : List ℕ) (sure n : ℕ) → start ≡ place_after p (take sure bytes) → IsFirst start (take (length bytes - sure) (drop sure bytes)) n
    → IsFirst (place_after p (take sure bytes)) (drop sure bytes) n
pass-first p start bytes sure n is first = subst (λ q. IsFirst q (drop sure bytes) n) is (subst (λ xs. IsFirst start xs n) (take_rest bytes sure) first)
