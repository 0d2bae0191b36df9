-- Where the text of a field in quotes begins.
use Rattle.std.proofs.Common.{◌≡◌, ◌≢◌, ◌<◌, ◌≤◌, ◌+◌, ◌-◌, ◌∙◌, inl, inr, ℕ, zero, suc, Bool, true, false, List, [], ◌∷◌, Option, None, Some, IfSome, length, take, drop, slice_index, refl, ap, subst, sym, arith}
use Rattle.std.specs.Prelude.{◌==◌, ◌&&◌, ◌||◌, not}
use Rattle.std.proofs.lemmas.Bool.{cases_Bool, cases_lt, eq-eqb, eqb-true, ne_eqb}
use Rattle.std.proofs.lemmas.List.{get_or-drop, take_all, take_more}
use denote.Enum.Bare.{sameb}
use Rattle.csv_rows.specs.Places.{after_quote, place_after}
use Rattle.csv_rows.specs.contracts.place.Place.{the_type}
use Rattle.csv_rows.specs.declared.place.Place.{Place}
use Rattle.csv_rows.specs.declared.place.Place.TheVariants as place
use Rattle.csv_rows.proofs.Scans.{one-quote, place-append, place-none}
use Rattle.row_windows.proofs.QuoteScans.{others-outside}
use Rattle.text_lines.specs.Quotes.{IsLastOpening, IsOpenQuote, IsOpening, NoOpening, is_open_place, opens_field}

-- ---- what a comparison of places says

pub no_may_place : (p : Place) → not (sameb the_type p place.Opens) ≡ true → is_open_place p ≡ false
no_may_place place.Quoted h = refl
no_may_place place.Opens h = cc
no_may_place place.Inside h = refl

pub may_place : (p : Place) → not (sameb the_type p place.Opens) ≡ false → is_open_place p ≡ true
may_place place.Quoted h = cc
may_place place.Opens h = refl
may_place place.Inside h = cc

pub not_quoted_place : (p : Place) → not (sameb the_type p place.Quoted) ≡ true → p ≢ place.Quoted
not_quoted_place place.Quoted h = cc
not_quoted_place place.Opens h = λ e. cc e
not_quoted_place place.Inside h = λ e. cc e

-- ---- one quote

-- whether another quote is right before a place
abbrev is_first : List ℕ → ℕ → Bool
is_first text at = (at == 0) || not (slice_index text (at - 1) == 34)

first_of_text : (text : List ℕ) (at : ℕ) → at ≡ 0 → is_first text at ≡ true
first_of_text text at e = subst (λ (n : ℕ). is_first text n ≡ true) (sym e) refl

first_after : (text : List ℕ) (at : ℕ) → at ≢ 0 → slice_index text (at - 1) ≢ 34 → is_first text at ≡ true
first_after text at some other =
    let low : (at == 0) ≡ false = ne_eqb at 0 some in
    let apart : (slice_index text (at - 1) == 34) ≡ false = ne_eqb (slice_index text (at - 1)) 34 other in
    ap (λ (b : Bool). b || not (slice_index text (at - 1) == 34)) low ∙ ap not apart

not_first : (text : List ℕ) (at : ℕ) → at ≢ 0 → slice_index text (at - 1) ≡ 34 → is_first text at ≡ false
not_first text at some quote =
    let low : (at == 0) ≡ false = ne_eqb at 0 some in
    ap (λ (b : Bool). b || not (slice_index text (at - 1) == 34)) low ∙ ap (λ (c : ℕ). not (c == 34)) quote

module _ (text : List ℕ) (at : ℕ) where
  opening : (p : Place) → slice_index text at ≡ 34 → p ≡ place_after place.Opens (take at text) → is_open_place p ≡ true → is_first text at ≡ true → IsOpening text at
  opening p quote here may first =
      let so : opens_field text at p ≡ true = ap (λ (b : Bool). b && is_first text at) may ∙ first in
      (quote, subst (λ (q : Place). opens_field text at q ≡ true) here so)

  no_opening_place : (p : Place) → p ≡ place_after place.Opens (take at text) → is_open_place p ≡ false → IsOpening text at → ⊥
  no_opening_place p here other is =
      let so : opens_field text at p ≡ true = subst (λ (q : Place). opens_field text at q ≡ true) (sym here) is.1 in
      let bad : false ≡ true = sym (ap (λ (b : Bool). b && is_first text at) other) ∙ so in
      cc bad

  and_none : (b c : Bool) → c ≡ false → (b && c) ≡ false
  and_none true c e = e
  and_none false c e = refl

  no_opening_byte : at ≢ 0 → slice_index text (at - 1) ≡ 34 → IsOpening text at → ⊥
  no_opening_byte some quote is =
      let bad : false ≡ true = sym (and_none (is_open_place (place_after place.Opens (take at text))) (is_first text at) (not_first text at some quote)) ∙ is.1 in
      cc bad

-- ---- the last opening so far

pub none_yet : (text : List ℕ) → IsLastOpening text 0 None
none_yet text = record { some = tt; none = λ _ at low high is. absurd (omega (arith, high)) }

-- no other one between two places
pub opening_later : (text : List ℕ) (from to : ℕ) (last : Option ℕ) → from ≤ to → NoOpening text from to → IsLastOpening text from last → IsLastOpening text to last
opening_later text from to None order clear l = record {
  some = tt;
  none = λ _ at low high is. elim (cases_lt at from) [ inl below ↦ l.none refl at low below is | inr above ↦ clear at above high is ];
}
opening_later text from to (Some q) order clear l = record {
  some = (
    omega (arith, order, l.some.0),
    l.some.1,
    λ at low high is. elim (cases_lt at from) [ inl below ↦ l.some.2 at low below is | inr above ↦ clear at above high is ],
  );
  none = λ e. cc e;
}

-- nor at one place
one_place : (text : List ℕ) (at : ℕ) (last : Option ℕ) → (IsOpening text at → ⊥) → IsLastOpening text at last → IsLastOpening text (at + 1) last
one_place text at last never l =
    opening_later text at (at + 1) last (omega arith) (λ k low high is. let same : k ≡ at = omega (arith, low, high) in never (subst (IsOpening text) same is)) l

pub no_may : (text : List ℕ) (at : ℕ) (p : Place) (last : Option ℕ) → p ≡ place_after place.Opens (take at text) → is_open_place p ≡ false → IsLastOpening text at last → IsLastOpening text (at + 1) last
no_may text at p last here other l = one_place text at last (no_opening_place text at p here other) l

pub no_first : (text : List ℕ) (at : ℕ) (last : Option ℕ) → at ≢ 0 → slice_index text (at - 1) ≡ 34 → IsLastOpening text at last → IsLastOpening text (at + 1) last
no_first text at last some quote l = one_place text at last (no_opening_byte text at some quote) l

opened : (text : List ℕ) (at : ℕ) → IsOpening text at → IsLastOpening text (at + 1) (Some at)
opened text at is = record { some = (omega arith, is, λ k low high _. absurd (omega (arith, low, high))); none = λ e. cc e }

pub opened_first : (text : List ℕ) (at : ℕ) (p : Place) → slice_index text at ≡ 34 → p ≡ place_after place.Opens (take at text) → is_open_place p ≡ true → at ≡ 0 → IsLastOpening text (at + 1) (Some at)
opened_first text at p quote here may e = opened text at (opening text at p quote here may (first_of_text text at e))

pub opened_after : (text : List ℕ) (at : ℕ) (p : Place) → slice_index text at ≡ 34 → p ≡ place_after place.Opens (take at text) → is_open_place p ≡ true → at ≢ 0 → slice_index text (at - 1) ≢ 34
    → IsLastOpening text (at + 1) (Some at)
opened_after text at p quote here may some other = opened text at (opening text at p quote here may (first_after text at some other))

-- bytes that are no quotes open nothing
pub clear_bytes : (text : List ℕ) (from k : ℕ) → ((j : ℕ) → j < k → slice_index (drop from text) j ≢ 34) → NoOpening text from (from + k)
clear_bytes text from k others at low high is =
    let short : at - from < k = omega (arith, low, high) in
    let same : from + (at - from) ≡ at = omega (arith, low) in
    others (at - from) short (get_or-drop from text (at - from) 0 ∙ (ap (slice_index text) same ∙ is.0))

-- ---- a text that ends between quotes

inside : (p : Place) → p ≢ place.Quoted → p ≢ place.Opens → p ≡ place.Inside
inside place.Quoted outer shut = absurd (outer refl)
inside place.Opens outer shut = absurd (shut refl)
inside place.Inside outer shut = refl

one_other : (c : ℕ) → (c == 34) ≡ false → (k : ℕ) → k < length (c ∷ []) → slice_index (c ∷ []) k ≢ 34
one_other c e zero low = λ is. let bad : true ≡ false = sym (eq-eqb c 34 is) ∙ e in cc bad
one_other c e (suc k) low = absurd (omega (arith, low))

-- a scan that is not between quotes, nor right after a quote where one would open
record IsCalm (text : List ℕ) (n : ℕ) : Type 0 where
  outer : place_after place.Opens (take n text) ≢ place.Quoted
  shut : place_after place.Opens (take n text) ≡ place.Opens → n ≢ 0 → slice_index text (n - 1) ≢ 34

calm_next : (text : List ℕ) (n : ℕ) → n < length text → (IsOpening text n → ⊥) → IsCalm text n → IsCalm text (n + 1)
calm_next text n low never calm =
    let c = slice_index text n in
    let p = place_after place.Opens (take n text) in
    let next : place_after place.Opens (take (n + 1) text) ≡ place_after p (c ∷ []) = ap (place_after place.Opens) (take_more text n 0 low) ∙ place-append place.Opens (take n text) (c ∷ []) in
    let last : (n + 1) - 1 ≡ n = omega arith in
    elim (cases_Bool (c == 34)) [
      | inl quote ↦
          let is : c ≡ 34 = eqb-true c 34 quote in
          let may : p ≢ place.Opens = λ e. elim (cases_Bool (is_first text n)) [
            | inl first ↦ never (opening text n p is refl (ap is_open_place e) first)
            | inr later ↦ calm.shut e (λ zero_is. let bad : true ≡ false = sym (first_of_text text n zero_is) ∙ later in cc bad) (quote_before text n later)
          ] in
          let here : place_after place.Opens (take (n + 1) text) ≡ place.Inside = next ∙ (ap (λ (d : ℕ). place_after p (d ∷ [])) is ∙ (one-quote p ∙ ap after_quote (inside p calm.outer may))) in
          record { outer = λ e. let bad : place.Inside ≡ place.Quoted = sym here ∙ e in cc bad; shut = λ e _ _. let bad : place.Inside ≡ place.Opens = sym here ∙ e in cc bad }
      | inr other ↦ record {
        outer = λ e. others-outside p (c ∷ []) (one_other c other) calm.outer (sym next ∙ e);
        shut = λ _ _ q. let bad : true ≡ false = sym (eq-eqb c 34 (ap (slice_index text) (sym last) ∙ q)) ∙ other in cc bad;
      }
    ]
  where
    or_true : (a b : Bool) → b ≡ true → (a || b) ≡ false → ⊥
    or_true true b e h = let bad : true ≡ false = h in cc bad
    or_true false b e h = let bad : true ≡ false = sym e ∙ h in cc bad

    quote_before : (text : List ℕ) (n : ℕ) → is_first text n ≡ false → slice_index text (n - 1) ≡ 34
    quote_before text n later = elim (cases_Bool (slice_index text (n - 1) == 34)) [
      | inl e ↦ eqb-true (slice_index text (n - 1)) 34 e
      | inr e ↦ absurd (or_true (n == 0) (not (slice_index text (n - 1) == 34)) (ap not e) later)
    ]

calm_all : (text : List ℕ) → NoOpening text 0 (length text) → (n : ℕ) → n ≤ length text → IsCalm text n
calm_all text none zero high = record {
  outer = λ e. let bad : place.Opens ≡ place.Quoted = sym (place-none place.Opens) ∙ e in cc bad;
  shut = λ _ some _. absurd (some refl);
}
calm_all text none (suc n) high =
    let one : suc n ≡ n + 1 = omega arith in
    let low : n < length text = omega (arith, high) in
    subst (IsCalm text) (sym one) (calm_next text n low (none n (omega arith) low) (calm_all text none n (omega (arith, high))))

pub never_opened : (text : List ℕ) → NoOpening text 0 (length text) → place_after place.Opens text ≢ place.Quoted
never_opened text none quoted = (calm_all text none (length text) (omega arith)).outer (ap (place_after place.Opens) (take_all (length text) text (omega arith)) ∙ quoted)

-- what the last opening of all says
pub may_some : (text : List ℕ) (last : Option ℕ) → IsLastOpening text (length text) last → place_after place.Opens text ≡ place.Quoted → IfSome last (IsOpenQuote text)
may_some text None l quoted = tt
may_some text (Some at) l quoted = record { within = l.some.0; opens = l.some.1; unclosed = quoted; last = λ k low high. l.some.2 k (omega (arith, low)) high }

pub may_none : (text : List ℕ) (last : Option ℕ) → IsLastOpening text (length text) last → last ≡ None → place_after place.Opens text ≢ place.Quoted
may_none text last l e = never_opened text (l.none e)
