-- Parts that are the same are the same whole.
use Rattle.std.proofs.Common.{◌≡◌, ◌∙◌, ℕ, Bool, true, false, List, sym}
use Rattle.std.specs.Prelude.{bytes_eq}
use Rattle.std.proofs.lemmas.Bool.{true≢false}
use Rattle.std.proofs.lemmas.Slice.Eq.{bytes_eq-Decides}
use Rattle.state_head.specs.Head.{Subject}
use Rattle.state_head.specs.Words.{Keys, Words}

pub same_subject : (a b : Subject) → a.words ≡ b.words → a.header ≡ b.header → a.sources ≡ b.sources → a ≡ b
same_subject a b e f g = λ i. record { words = e i; header = f i; sources = g i }

pub same_words : (a b : Words) → a.group ≡ b.group → a.agg ≡ b.agg → a.filter ≡ b.filter → a.decimals ≡ b.decimals → a ≡ b
same_words a b e f g h = λ i. record { group = e i; agg = f i; filter = g i; decimals = h i }

pub same_keys : (a b : Keys) → a.low ≡ b.low → a.high ≡ b.high → a ≡ b
same_keys a b e f = λ i. record { low = e i; high = f i }

-- what a test of two texts says
pub text_is : (a b : List ℕ) (r : Bool) → r ≡ bytes_eq a b → r ≡ true → b ≡ a
text_is a b r is holds = sym ((bytes_eq-Decides a b).0 (sym is ∙ holds))

pub is_text : (a b : List ℕ) (r : Bool) → r ≡ bytes_eq a b → b ≡ a → r ≡ true
is_text a b r is same = is ∙ (bytes_eq-Decides a b).1 (sym same)

-- a test that fails
pub fails : (b : Bool) (P : Type 0) → (P → b ≡ true) → b ≡ false → P → ⊥
fails b P holds e p = true≢false (sym (holds p) ∙ e)
