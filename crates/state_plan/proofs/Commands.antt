-- The words of a head as those of a command line: those that were put so far, and the texts that are left.
use Rattle.std.proofs.Common.{◌≡◌, ◌==◌, ◌<◌, ◌≤◌, ◌+◌, ◌/◌, ◌%◌, ◌^◌, ◌++◌, ◌∙◌, ◌⊎◌, inl, inr, ℕ, zero, suc, Bool, false, List, [], ◌∷◌, All, ap, append_assoc, append-nil, arith, codes, length, length-append, map, nat_lt, refl, subst, sym}
use Rattle.std.specs.List.{flat_map}
use Rattle.std.specs.Str.{IsUtf8}
use Rattle.std.proofs.lemmas.Bool.{cond_both, true≢false}
use Rattle.std.proofs.lemmas.Grind.{flat_map-append}
use Rattle.std.proofs.lemmas.List.{map-append}
use Rattle.std.proofs.lemmas.List.Elements.{All-head, All-nil, All-push, All-tail}
use Rattle.state_file.specs.Number.{number_bytes, sevens}
use Rattle.state_file.specs.Text.{text_bytes}
use Rattle.state_head.specs.Words.{Words}
use Rattle.state_plan.specs.Words.{HaveNoCommand, command_words, filter_word, option_words}

pub not_empty : (bs : List ℕ) (b : Bool) → b ≡ (length bs == 0) → b ≡ false → 0 < length bs
not_empty [] b e f = absurd (true≢false (sym e ∙ f))
not_empty (x ∷ bs) b e f = omega arith

-- an option with no value, and with one
pub option_none : (option text : List ℕ) → length text ≡ 0 → option_words option text ≡ []
option_none option [] e = refl
option_none option (b ∷ text) e = absurd (omega (arith, e))

pub option_some : (option text : List ℕ) → 0 < length text → option_words option text ≡ (option ++ text) ∷ []
option_some option [] some = absurd (omega (arith, some))
option_some option (b ∷ text) some = refl

-- ---- the filters

sevens_some : (more n : ℕ) → 0 < length (sevens more n)
unfolding sevens
sevens_some zero n = omega arith
sevens_some (suc more) n = cond_both (nat_lt n 128) (n ∷ []) ((128 + n % 128) ∷ sevens more (n / 128)) (λ (bs : List ℕ). 0 < length bs) (λ _. omega arith) (λ _. omega arith)

number_some : (n : ℕ) → 0 < length (number_bytes n)
unfolding number_bytes
number_some n = sevens_some 18 n

-- a text takes a byte at least
text_some : (text : List ℕ) → 0 < length (text_bytes text)
unfolding text_bytes
text_some text = omega (arith, number_some (length text), length-append (number_bytes (length text)) text)

abbrev pub IsShort : List ℕ → Type 0
IsShort text = length text ≤ 2 ^ 20

-- bytes that are some texts
pub record AreLeft (rest : List ℕ) : Type 0 where
  pub texts : List (List ℕ)
  pub are : rest ≡ flat_map text_bytes texts
  pub short : All IsShort texts
  pub utf8 : All IsUtf8 texts

-- some filters were put, and these bytes are left
pub record ArePut (bytes rest : List ℕ) (old now : List (List ℕ)) (at : ℕ) : Type 0 where
  pub filters : List (List ℕ)
  pub is : bytes ≡ flat_map text_bytes filters ++ rest
  pub short : All IsShort filters
  pub put : now ≡ old ++ map filter_word filters
  pub room : at + length rest ≤ length bytes
  pub left : AreLeft bytes → AreLeft rest

pub none_put : (bytes : List ℕ) (old : List (List ℕ)) → ArePut bytes bytes old old 0
none_put bytes old = record { filters = []; is = refl; short = All-nil IsShort; put = sym (append-nil old); room = omega arith; left = λ l. l }

-- bytes that are texts begin with one, unless there are none
record BeginsWith (rest : List ℕ) : Type 0 where
  pub text : List ℕ
  pub later : List ℕ
  pub begins : rest ≡ text_bytes text ++ later
  pub short : IsShort text
  pub utf8 : IsUtf8 text
  pub left : AreLeft later

begins_by : (rest : List ℕ) (texts : List (List ℕ)) → rest ≡ flat_map text_bytes texts → All IsShort texts → All IsUtf8 texts → 0 < length rest → BeginsWith rest
begins_by rest [] e short utf8 some = absurd (omega (arith, some, ap length e))
begins_by rest (t ∷ texts) e short utf8 some = record {
  text = t;
  later = flat_map text_bytes texts;
  begins = e;
  short = All-head IsShort t texts short;
  utf8 = All-head IsUtf8 t texts utf8;
  left = record { texts = texts; are = refl; short = All-tail IsShort t texts short; utf8 = All-tail IsUtf8 t texts utf8 };
}

begins : (rest : List ℕ) → AreLeft rest → 0 < length rest → BeginsWith rest
begins rest l some = begins_by rest l.texts l.are l.short l.utf8 some

pub one_put : (bytes rest text after : List ℕ) (old now new : List (List ℕ)) (at : ℕ) → ArePut bytes rest old now at → rest ≡ text_bytes text ++ after → length text ≤ 2 ^ 20
    → ((t r : List ℕ) → length t ≤ 2 ^ 20 → rest ≡ text_bytes t ++ r → (text ≡ t) × (after ≡ r)) → new ≡ now ++ filter_word text ∷ [] → ArePut bytes after old new (at + 1)
one_put bytes rest text after old now new at is read few written put =
    let room = is.room in
    let some : 0 < length (text_bytes text) = text_some text in
    let long : length rest ≡ length (text_bytes text) + length after = ap length read ∙ length-append (text_bytes text) after in
    record {
      filters = is.filters ++ text ∷ [];
      is = is.is ∙ ap (λ (bs : List ℕ). flat_map text_bytes is.filters ++ bs) read ∙ sym (append_assoc (flat_map text_bytes is.filters) (text_bytes text) after) ∙ ap (λ (bs : List ℕ). bs ++ after) (sym pushed);
      short = All-push IsShort is.filters text is.short few;
      put = put ∙ ap (λ (ws : List (List ℕ)). ws ++ filter_word text ∷ []) is.put ∙ append_assoc old (map filter_word is.filters) (filter_word text ∷ []) ∙ ap (λ (ws : List (List ℕ)). old ++ ws) (sym (map-append filter_word is.filters (text ∷ [])));
      room = omega (arith, room, some, long);
      left = λ l.
          let b = begins rest (is.left l) (omega (arith, some, long)) in
          subst AreLeft (sym (written b.text b.later b.short b.begins).1) b.left;
    }
  where
    pushed : flat_map text_bytes (is.filters ++ text ∷ []) ≡ flat_map text_bytes is.filters ++ text_bytes text
    pushed = flat_map-append text_bytes is.filters (text ∷ []) ∙ ap (λ (bs : List ℕ). flat_map text_bytes is.filters ++ bs) (append-nil (text_bytes text))

-- the bytes are no texts: they go on with none, or with one that is not UTF-8
pub not_texts : (bytes rest : List ℕ) (old now : List (List ℕ)) (at : ℕ) → ArePut bytes rest old now at → 0 < length rest → ((t r : List ℕ) → length t ≤ 2 ^ 20 → rest ≡ text_bytes t ++ r → ⊥)
    → (filters : List (List ℕ)) → bytes ≡ flat_map text_bytes filters → All IsShort filters → All IsUtf8 filters → ⊥
not_texts bytes rest old now at is some none filters e short utf8 =
    let b = begins rest (is.left (record { texts = filters; are = e; short = short; utf8 = utf8 })) some in
    none b.text b.later b.short b.begins

pub not_utf8 : (bytes rest text after : List ℕ) (old now : List (List ℕ)) (at : ℕ) → ArePut bytes rest old now at → 0 < length rest → ((t r : List ℕ) → length t ≤ 2 ^ 20 → rest ≡ text_bytes t ++ r → (text ≡ t) × (after ≡ r))
    → (IsUtf8 text → ⊥) → (filters : List (List ℕ)) → bytes ≡ flat_map text_bytes filters → All IsShort filters → All IsUtf8 filters → ⊥
not_utf8 bytes rest text after old now at is some written odd filters e short utf8 =
    let b = begins rest (is.left (record { texts = filters; are = e; short = short; utf8 = utf8 })) some in
    odd (subst IsUtf8 (sym (written b.text b.later b.short b.begins).0) b.utf8)

no_bytes : (rest : List ℕ) → length rest ≡ 0 → rest ≡ []
no_bytes [] e = refl
no_bytes (b ∷ rest) e = absurd (omega (arith, e))

-- all filters were put
pub record AllPut (bytes : List ℕ) (old now : List (List ℕ)) : Type 0 where
  pub filters : List (List ℕ)
  pub is : bytes ≡ flat_map text_bytes filters
  pub short : All IsShort filters
  pub put : now ≡ old ++ map filter_word filters

pub all_put : (bytes rest : List ℕ) (old now : List (List ℕ)) (at : ℕ) → ArePut bytes rest old now at → length rest ≡ 0 → AllPut bytes old now
all_put bytes rest old now at is none = record {
  filters = is.filters;
  is = is.is ∙ ap (λ (bs : List ℕ). flat_map text_bytes is.filters ++ bs) (no_bytes rest none) ∙ append-nil (flat_map text_bytes is.filters);
  short = is.short;
  put = is.put;
}

-- ---- the whole

-- the words of a command line, from those of each option
pub whole_command : (words : Words) (filters w1 w2 w3 w4 : List (List ℕ)) → w1 ≡ [] ++ option_words (codes "--group=") words.group → w2 ≡ w1 ++ option_words (codes "--agg=") words.agg → w3 ≡ w2 ++ map filter_word filters
    → w4 ≡ w3 ++ option_words (codes "--decimals=") words.decimals → w4 ≡ command_words words filters
whole_command words filters w1 w2 w3 w4 e1 e2 e3 e4 =
    let g = option_words (codes "--group=") words.group in
    let a = option_words (codes "--agg=") words.agg in
    let f = map filter_word filters in
    let d = option_words (codes "--decimals=") words.decimals in
    let three : w3 ≡ (g ++ a) ++ f = e3 ∙ ap (λ (ws : List (List ℕ)). ws ++ f) (e2 ∙ ap (λ (ws : List (List ℕ)). ws ++ a) e1) in
    e4 ∙ ap (λ (ws : List (List ℕ)). ws ++ d) three ∙ append_assoc (g ++ a) f d ∙ append_assoc g a (f ++ d)

-- one of the four is no text
pub no_command : (words : Words) (group agg filters decimals : Bool) → ((group ≡ false) ⊎ (agg ≡ false)) ⊎ ((filters ≡ false) ⊎ (decimals ≡ false)) → (group ≡ false → IsUtf8 words.group → ⊥) → (agg ≡ false → IsUtf8 words.agg → ⊥)
    → (filters ≡ false → (fs : List (List ℕ)) → words.filter ≡ flat_map text_bytes fs → All IsShort fs → All IsUtf8 fs → ⊥) → (decimals ≡ false → IsUtf8 words.decimals → ⊥) → HaveNoCommand words
no_command words group agg filters decimals (inl (inl e)) g a f d fs have texts = g e texts.group
no_command words group agg filters decimals (inl (inr e)) g a f d fs have texts = a e texts.agg
no_command words group agg filters decimals (inr (inl e)) g a f d fs have texts = f e fs have.are have.short texts.each
no_command words group agg filters decimals (inr (inr e)) g a f d fs have texts = d e texts.decimals
