-- What is read on of a source, and what holds of all that it has left.
use Rattle.std.proofs.Common.{◌≡◌, ◌++◌, ◌∙◌, ℕ, List, [], None, Option, Some, ap, append_assoc, append-nil, refl, subst, sym}
use Rattle.std.proofs.KnownBytes.{Consumes-nil, Consumes-trans, Consumes-whole}
use Rattle.std.specs.Io.KnownBytes.{Consumes, IsAtEnd}
use Rattle.state_source.specs.Reading.{OfLeft, ReadsOn}

pub reads_none : (a : Option (List ℕ)) (text : List ℕ) → ReadsOn a a text text
reads_none a text = ([], Consumes-nil a, sym (append-nil text))

pub reads_more : (a b c : Option (List ℕ)) (before middle text more : List ℕ) → ReadsOn a b before middle → Consumes b c more → text ≡ middle ++ more → ReadsOn a c before text
reads_more a b c before middle text more first second is =
    (first.0 ++ more, Consumes-trans a b c first.0 more first.1 second, is ∙ ap (λ (bs : List ℕ). bs ++ more) first.2 ∙ append_assoc before first.0 more)

pub reads_on : (a b c : Option (List ℕ)) (before middle text : List ℕ) → ReadsOn a b before middle → ReadsOn b c middle text → ReadsOn a c before text
reads_on a b c before middle text first second = reads_more a b c before middle text second.0 first second.1 second.2

pub reads_from : (a b c : Option (List ℕ)) (before text : List ℕ) → Consumes a b before → ReadsOn b c before text → Consumes a c text
reads_from a b c before text first second = subst (Consumes a c) (sym second.2) (Consumes-trans a b c before second.0 first second.1)

pub reads_first : (a : Option (List ℕ)) (none : List ℕ) → none ≡ [] → Consumes a a none
reads_first a none is = subst (Consumes a a) (sym is) (Consumes-nil a)

-- ---- all that is left

pub of_any : (a : Option (List ℕ)) (P : List ℕ → Type 0) → ((bytes : List ℕ) → P bytes) → OfLeft a P
of_any None P all = ([], tt, all [])
of_any (Some x) P all = (x, refl, all x)

-- what holds of one holds of the other
pub of_as : (a : Option (List ℕ)) (P Q : List ℕ → Type 0) → ((bytes : List ℕ) → P bytes → Q bytes) → OfLeft a P → OfLeft a Q
of_as a P Q also is = (is.0, is.1, also is.0 is.2)

-- all was read
pub of_end : (a b : Option (List ℕ)) (bytes : List ℕ) (P : List ℕ → Type 0) → Consumes a b bytes → IsAtEnd b → P bytes → OfLeft a P
of_end a b bytes P read end is = (bytes, Consumes-whole a b bytes (λ (known : List ℕ). bytes ≡ known) read end refl, is)

-- some was read, and it holds of that and what is left
pub of_more : (a b : Option (List ℕ)) (bytes : List ℕ) (P : List ℕ → Type 0) → Consumes a b bytes → OfLeft b (λ more. P (bytes ++ more)) → OfLeft a P
of_more None b bytes P read is = (bytes ++ is.0, tt, is.2)
of_more (Some x) None bytes P read is = absurd read
of_more (Some x) (Some y) bytes P read is = (bytes ++ is.0, ap (λ (bs : List ℕ). bytes ++ bs) is.1 ∙ sym read, is.2)

-- it holds of what was read and whatever comes after it
pub of_read : (a b : Option (List ℕ)) (before held : List ℕ) (P : List ℕ → Type 0) → ReadsOn a b before held → ((more : List ℕ) → P (held ++ more)) → OfLeft a (λ more. P (before ++ more))
of_read a b before held P reads all =
    of_more a b reads.0 (λ rest. P (before ++ rest)) reads.1
    (of_any b (λ more. P (before ++ (reads.0 ++ more))) (λ more. subst P (ap (λ (bs : List ℕ). bs ++ more) reads.2 ∙ append_assoc before reads.0 more) (all more)))

-- it holds of what was read and what is left
pub of_reads : (a b : Option (List ℕ)) (before held : List ℕ) (P : List ℕ → Type 0) → ReadsOn a b before held → OfLeft b (λ more. P (held ++ more)) → OfLeft a (λ more. P (before ++ more))
of_reads a b before held P reads is =
    of_more a b reads.0 (λ rest. P (before ++ rest)) reads.1
    (of_as b (λ more. P (held ++ more)) (λ more. P (before ++ (reads.0 ++ more))) (λ more here. subst P (ap (λ (bs : List ℕ). bs ++ more) reads.2 ∙ append_assoc before reads.0 more) here) is)

-- it holds of two parts and what is left, put together either way
pub of_apart : (a : Option (List ℕ)) (front held : List ℕ) (P : List ℕ → Type 0) → OfLeft a (λ more. P ((front ++ held) ++ more)) → OfLeft a (λ more. P (front ++ (held ++ more)))
of_apart a front held P is = of_as a (λ more. P ((front ++ held) ++ more)) (λ more. P (front ++ (held ++ more))) (λ more here. subst P (append_assoc front held more) here) is
