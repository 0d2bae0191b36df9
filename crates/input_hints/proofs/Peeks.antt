-- The first bytes of a source: what is left after some of them were read, and what they show of it.
use Rattle.std.proofs.Common.{◌≡◌, ◌∙◌, ◌+◌, ◌⊎◌, ◌++◌, ℕ, List, Option, None, Some, IfSome, ap, append_assoc, append-nil, arith, drop, inl, inr, length, sym, take}
use Rattle.std.proofs.Math.Seq.{take-add}
use Rattle.std.proofs.lemmas.List.{take-append-le}
use Rattle.std.specs.Io.KnownBytes.{Consumes, IsAtEnd, Keeps, prepend_known}
use Rattle.input_hints.specs.Kinds.{kind_by, kind_in}
use Rattle.input_hints.specs.declared.kind.Kind.{Kind}

-- this many bytes more were read after those that were there, and nothing is lost
pub kept_more : (a b : Option (List ℕ)) (old new : List ℕ) (at n : ℕ) → take at new ≡ take at old → Consumes a b (take n (drop at new))
    → Keeps (prepend_known (take at old) a) (prepend_known (take (at + n) new) b)
kept_more None b old new at n front read = tt
kept_more (Some x) None old new at n front read = absurd read
kept_more (Some x) (Some y) old new at n front read =
    let more = take n (drop at new) in
    ap (λ (l : List ℕ). l ++ y) (take-add at n new ∙ ap (λ (l : List ℕ). l ++ more) front)
    ∙ append_assoc (take at old) more y ∙ ap (λ (l : List ℕ). take at old ++ l) (sym read)

-- sixteen bytes show what a file is
sixteen_show : (front rest : List ℕ) → length front ≡ 16 → kind_in (front ++ rest) ≡ kind_in front
sixteen_show front rest sixteen =
    ap kind_by (take-append-le 16 front rest (omega (arith, sixteen)))

-- so do all that are left
shown : (front : List ℕ) (left : Option (List ℕ)) → (length front ≡ 16) ⊎ IsAtEnd left → IfSome (prepend_known front left) (λ bytes. kind_in bytes ≡ kind_in front)
shown front None has = tt
shown front (Some rest) (inl sixteen) = sixteen_show front rest sixteen
shown front (Some rest) (inr end) = ap kind_in (ap (λ (l : List ℕ). front ++ l) end ∙ append-nil front)

kept_kind : (kind : Option Kind) (a b : Option (List ℕ)) → Keeps a b → IfSome b (λ bytes. kind_in bytes ≡ kind) → IfSome a (λ bytes. kind_in bytes ≡ kind)
kept_kind kind None b kept is = tt
kept_kind kind (Some x) None kept is = absurd kept
kept_kind kind (Some x) (Some y) kept is = ap kind_in (sym kept) ∙ is

-- they show it of what was left before they were read
pub kind_shown : (old : Option (List ℕ)) (front : List ℕ) (left : Option (List ℕ)) → Keeps old (prepend_known front left) → (length front ≡ 16) ⊎ IsAtEnd left
    → IfSome old (λ bytes. kind_in bytes ≡ kind_in front)
kind_shown old front left kept has = kept_kind (kind_in front) old (prepend_known front left) kept (shown front left has)
