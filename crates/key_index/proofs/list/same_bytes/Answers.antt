use Rattle.std.proofs.Common.{◌≡◌, ◌-◌, ◌∙◌, ◌/◌, [], ℕ, List, ap, arith, drop, get_or, length, refl, sym}
use Rattle.std.specs.Simd.{first_chunks}
use Rattle.key_index.proofs.Words.{same-words}
use Rattle.key_index.proofs.list.same_bytes.Goals as goal

pub returns-then-same_words : goal.returns-then-same_words
returns-then-same_words c =
    let a = c.args.a.now in
    let b = c.args.b.now in
    let last : drop (length a - 8) a ≡ drop (length b - 8) b = ap (λ (words : List (List ℕ)). get_or words 0 []) (sym c.last_word.ensures ∙ c.if-same_words.ensures.0 refl ∙ c.last_word-2.ensures) in (
      λ t. same-words a b (omega arith) (omega arith) last (sym c.as_chunks.ensures.front ∙ c.same_words-then-same_words.ensures.0 t ∙ c.as_chunks-then-same_words.ensures.front),
      λ e. c.same_words-then-same_words.ensures.1 (c.as_chunks.ensures.front ∙ ap (λ (l : List ℕ). first_chunks 8 (length l / 8) l) e ∙ sym c.as_chunks-then-same_words.ensures.front),
    )
