use Rattle.std.proofs.Common.{◌≡◌, ◌==◌, ◌++◌, ◌∙◌, ℕ, List, [], ◌∷◌, IfSome, MatchOption, None, Option, Some, ap, append-nil, arith, length, refl, subst, sym}
use Rattle.std.proofs.lemmas.Bool.{eqb-true, false≢true}
use Rattle.state_head.specs.Cover.{IsCover, cover_bytes}
use Rattle.state_head.specs.Head.{Preface, Subject, subject_of}
use Rattle.state_head.specs.Words.{keys_bytes, keys_of}
use Rattle.state_head.proofs.Texts.{head_read, head_written, preface_same}
use Rattle.state_head.proofs.head.read_head.Goals as goal

some_of : {X : Type 0} (P : X → Type 0) (o : Option X) (x : X) → o ≡ Some x → IfSome o P → P x
some_of P o x e h = subst (λ p. IfSome p P) e h

match_some : {X : Type 0} (P : X → Type 0) (o : Option X) (x : X) → o ≡ Some x → MatchOption o ⊥ P → P x
match_some P o x e h = subst (λ p. MatchOption p ⊥ P) e h

match_none : {X : Type 0} (P : X → Type 0) (o : Option X) → o ≡ None → MatchOption o ⊥ P → ⊥
match_none P o e h = subst (λ p. MatchOption p ⊥ P) e h

empty_is : (bs : List ℕ) → length bs ≡ 0 → bs ≡ []
empty_is [] e = refl
empty_is (b ∷ bs) e = absurd (omega (arith, e))

cover_for : (r s : Subject) (p : Preface) → r ≡ s → p.subject ≡ s → IsCover p.subject.sources p.cover → IsCover r.sources p.cover
cover_for r s p e f is = subst (λ (t : Subject). IsCover t.sources p.cover) (f ∙ sym e) is

pub returns-in_default-clause-written : goal.returns-in_default-clause-written
returns-in_default-clause-written c = λ p is e. c.in_default.ensures.written p.subject (cover_bytes p.cover ++ keys_bytes p.keys) is.is_subject (head_written c.args.bytes.now p e)

pub returns-in_default-2-clause-written : goal.returns-in_default-2-clause-written
returns-in_default-2-clause-written c = λ p is e.
    let one = c.in-Some.ensures.written p.subject (cover_bytes p.cover ++ keys_bytes p.keys) is.is_subject (head_written c.args.bytes.now p e) in
    match_none _ _ c.in_default-2.is (c.in_ok-cover.ensures.written p.cover (keys_bytes p.keys) (cover_for (subject_of c.in-Some.whole) p.subject p one.0 refl is.is_cover) one.1)

pub returns-then-is_empty-clause-read : goal.returns-then-is_empty-clause-read
returns-then-is_empty-clause-read c =
    let one = c.in-Some.ensures.read in
    let two = some_of _ _ _ c.in-Some-2.is c.in_ok-cover.ensures.read in
    let three = c.in-Some-read_range.ensures.read in
    let rest = c.in-Some-read_range.rest.now in
    let keys = keys_of c.in-Some-read_range.range in
    let none = empty_is rest (eqb-true (length rest) 0 (sym c.is_empty.ensures ∙ c.if-is_empty.true)) in (
      head_read c.args.bytes.now c.in-Some.after.now c.in-Some-2.after.now (subject_of c.in-Some.whole) c.in-Some-2.cover.items keys one.0 two.0
          (three.0 ∙ ap (λ (bs : List ℕ). keys_bytes keys ++ bs) none ∙ append-nil (keys_bytes keys)),
      record { is_subject = one.1; is_cover = two.1; are_keys = three.1 },
    )

pub returns-then-is_empty-clause-written : goal.returns-then-is_empty-clause-written
returns-then-is_empty-clause-written c = λ p is e.
    let one = c.in-Some.ensures.written p.subject (cover_bytes p.cover ++ keys_bytes p.keys) is.is_subject (head_written c.args.bytes.now p e) in
    let two = match_some _ _ _ c.in-Some-2.is (c.in_ok-cover.ensures.written p.cover (keys_bytes p.keys) (cover_for (subject_of c.in-Some.whole) p.subject p one.0 refl is.is_cover) one.1) in
    let three = c.in-Some-read_range.ensures.written p.keys [] is.are_keys (two.1 ∙ sym (append-nil (keys_bytes p.keys))) in
    preface_same (record { subject = subject_of c.in-Some.whole; cover = c.in-Some-2.cover.items; keys = keys_of c.in-Some-read_range.range }) p one.0 two.0 three.0

pub returns-else-is_empty-clause-written : goal.returns-else-is_empty-clause-written
returns-else-is_empty-clause-written c = λ p is e.
    let one = c.in-Some.ensures.written p.subject (cover_bytes p.cover ++ keys_bytes p.keys) is.is_subject (head_written c.args.bytes.now p e) in
    let two = match_some _ _ _ c.in-Some-2.is (c.in_ok-cover.ensures.written p.cover (keys_bytes p.keys) (cover_for (subject_of c.in-Some.whole) p.subject p one.0 refl is.is_cover) one.1) in
    let three = c.in-Some-read_range.ensures.written p.keys [] is.are_keys (two.1 ∙ sym (append-nil (keys_bytes p.keys))) in
    false≢true (sym c.if-is_empty.false ∙ c.is_empty.ensures ∙ ap (λ (bs : List ℕ). length bs == 0) three.1)

pub returns-in-None-clause-written : goal.returns-in-None-clause-written
returns-in-None-clause-written c = λ p is e.
    let one = c.in-Some.ensures.written p.subject (cover_bytes p.cover ++ keys_bytes p.keys) is.is_subject (head_written c.args.bytes.now p e) in
    let two = match_some _ _ _ c.in-Some-2.is (c.in_ok-cover.ensures.written p.cover (keys_bytes p.keys) (cover_for (subject_of c.in-Some.whole) p.subject p one.0 refl is.is_cover) one.1) in
    c.in-None.ensures.written p.keys [] is.are_keys (two.1 ∙ sym (append-nil (keys_bytes p.keys)))
