-- Which messages are whole.
use Rattle.std.proofs.Common.{◌≡◌, ℕ, zero, suc, ◌≤◌, List, [], ◌∷◌, ◌++◌, length, drop, All, Option, Some, None, refl, sym, ap, subst, ◌∙◌, arith, length-append, append_assoc}
use Rattle.std.specs.Option.{option_map_or}
use Rattle.std.proofs.Math.Seq.{drop-append_seam}
use Rattle.std.proofs.lemmas.List.Elements.{All-append}
use Rattle.rel_pointer.specs.Bytes.{AllBytes}
use Rattle.ring_rule.specs.Frames.{frame, frames, AreWhole}
use Rattle.mq_handle.specs.Messages.{first_of, whole_in, whole_of, left_of}
use Rattle.mq_handle.proofs.Decoding.{first_frame, first_is}

-- the messages of words, once the first of them is known
step : (n : ℕ) (words : List ℕ) (o : Option (List ℕ)) → first_of words ≡ o → whole_in (suc n) words ≡ option_map_or (λ m. m ∷ whole_in n (drop (length (frame m)) words)) o []
step n words o e = ap (λ (p : Option (List ℕ)). option_map_or (λ m. m ∷ whole_in n (drop (length (frame m)) words)) p []) e

in_frames : (n : ℕ) (ms : List (List ℕ)) (part : List ℕ) → All AllBytes ms → first_of part ≡ None → length (frames ms) ≤ n → whole_in n (frames ms ++ part) ≡ ms
in_frames zero [] part a none h = refl
in_frames zero (m ∷ ms) part a none h = absurd (omega (arith, length-append (frame m) (frames ms)))
in_frames (suc n) [] part a none h = step n part None none
in_frames (suc n) (m ∷ ms) part a none h =
    let e = append_assoc (frame m) (frames ms) part in
    let words = frame m ++ (frames ms ++ part) in
    ap (whole_in (suc n)) e
    ∙ step n words (Some m) (first_frame m (frames ms ++ part) (a 0 [] (omega arith)))
    ∙ ap (λ (z : List ℕ). m ∷ whole_in n z) (drop-append_seam (frame m) (frames ms ++ part))
    ∙ ap (λ (z : List (List ℕ)). m ∷ z) (in_frames n ms part (λ k d l. a (suc k) d (omega arith)) none (omega (arith, length-append (frame m) (frames ms))))

pub whole_is : (ms : List (List ℕ)) (part : List ℕ) → All AllBytes ms → first_of part ≡ None → whole_of (frames ms ++ part) ≡ ms
unfolding whole_of
whole_is ms part a none = in_frames (length (frames ms ++ part)) ms part a none (omega (arith, length-append (frames ms) part))

pub left_is : (ms : List (List ℕ)) (part : List ℕ) → All AllBytes ms → first_of part ≡ None → left_of (frames ms ++ part) ≡ part
unfolding left_of
left_is ms part a none = ap (λ (z : List (List ℕ)). drop (length (frames z)) (frames ms ++ part)) (whole_is ms part a none) ∙ drop-append_seam (frames ms) part

-- words are the frames of messages, and then the rest, which begins with no frame
pub record Parts (words : List ℕ) (messages : List (List ℕ)) : Type 0 where
  pub bytes : All AllBytes messages
  pub rest : List ℕ
  pub is : words ≡ frames messages ++ rest
  pub torn : first_of rest ≡ None

nothing : (ws : List ℕ) → length ws ≤ 0 → ws ≡ []
nothing [] l = refl
nothing (w ∷ ws) l = absurd (omega arith)

none_all : All AllBytes []
none_all k d h = absurd (omega arith)

parts_in : (n : ℕ) (words : List ℕ) → length words ≤ n → Parts words (whole_in n words)
parts_in zero words h = record { bytes = none_all; rest = words; is = refl; torn = ap first_of (nothing words h) }
parts_in (suc n) words h = go (first_of words) refl (λ more l. parts_in n more l)
  where
    go : (o : Option (List ℕ)) → first_of words ≡ o → ((more : List ℕ) → length more ≤ n → Parts more (whole_in n more)) → Parts words (whole_in (suc n) words)
    go None e ih = subst (Parts words) (sym (step n words None e)) (record { bytes = none_all; rest = words; is = refl; torn = e })
    go (Some m) e ih =
        let f = first_is words m e in
        let more = f.1 in
        let after : drop (length (frame m)) words ≡ more = ap (drop (length (frame m))) f.2 ∙ drop-append_seam (frame m) more in
        let count = ap length f.2 ∙ length-append (frame m) more in
        let p = ih more (omega arith) in
        subst (Parts words) (sym (step n words (Some m) e ∙ ap (λ (z : List ℕ). m ∷ whole_in n z) after)) (record {
          bytes = both m (whole_in n more) f.0 p.bytes;
          rest = p.rest;
          is = f.2 ∙ ap (λ (z : List ℕ). frame m ++ z) p.is ∙ sym (append_assoc (frame m) (frames (whole_in n more)) p.rest);
          torn = p.torn;
        })
      where
        both : (m : List ℕ) (ms : List (List ℕ)) → AllBytes m → All AllBytes ms → All AllBytes (m ∷ ms)
        both m ms a b zero d h = a
        both m ms a b (suc k) d h = b k d (omega arith)

pub parts_of : (words : List ℕ) → Parts words (whole_of words)
unfolding whole_of
parts_of words = parts_in (length words) words (omega arith)

pub whole_longest : (words : List ℕ) → AreWhole words (whole_of words)
whole_longest words = let p = parts_of words in record {
  bytes = p.bytes;
  rest = p.rest;
  begins = p.is;
  longest = λ m more a e. let f = sym p.torn ∙ ap first_of e ∙ first_frame m more a in cc;
}

frames_both : (ms ns : List (List ℕ)) → frames (ms ++ ns) ≡ frames ms ++ frames ns
frames_both [] ns = refl
frames_both (m ∷ ms) ns = ap (λ (z : List ℕ). frame m ++ z) (frames_both ms ns) ∙ sym (append_assoc (frame m) (frames ms) (frames ns))

-- the whole messages of a beginning are the first ones
pub whole_front : (words front rest : List ℕ) → words ≡ front ++ rest → (more : List (List ℕ)) × (whole_of words ≡ whole_of front ++ more)
whole_front words front rest e =
    let p = parts_of front in
    let q = parts_of (p.rest ++ rest) in
    let ms = whole_of front in
    let ns = whole_of (p.rest ++ rest) in
    let is : words ≡ frames (ms ++ ns) ++ q.rest =
    e ∙ ap (λ (z : List ℕ). z ++ rest) p.is ∙ append_assoc (frames ms) p.rest rest ∙ ap (λ (z : List ℕ). frames ms ++ z) q.is
    ∙ sym (append_assoc (frames ms) (frames ns) q.rest) ∙ ap (λ (z : List ℕ). z ++ q.rest) (sym (frames_both ms ns)) in
    (ns, ap whole_of is ∙ whole_is (ms ++ ns) q.rest (All-append AllBytes ms ns p.bytes q.bytes) q.torn)
