-- Parts one after another, in front of other bytes; words, keys and what all files say alike, by their parts.
use Rattle.std.proofs.Common.{◌≡◌, ◌++◌, ◌∙◌, ℕ, List, ap, append_assoc, sym}
use Rattle.state_file.specs.Number.{number_bytes}
use Rattle.state_file.specs.Text.{text_bytes}
use Rattle.state_head.specs.Head.{Preface, Subject, head_bytes, subject_bytes}
use Rattle.state_head.specs.Cover.{cover_bytes}
use Rattle.state_head.specs.Words.{Keys, Words, keys_bytes, pair_bytes, words_bytes}
use Rattle.state_head.specs.declared.cover.Stretch.{Stretch}

pub two_read : (bytes a after b rest : List ℕ) → bytes ≡ a ++ after → after ≡ b ++ rest → bytes ≡ (a ++ b) ++ rest
two_read bytes a after b rest e f = e ∙ ap (λ (bs : List ℕ). a ++ bs) f ∙ sym (append_assoc a b rest)

pub two_written : (bytes a b rest : List ℕ) → bytes ≡ (a ++ b) ++ rest → bytes ≡ a ++ (b ++ rest)
two_written bytes a b rest e = e ∙ append_assoc a b rest

pub pair_written : (bytes a b rest : List ℕ) → bytes ≡ pair_bytes a b ++ rest → bytes ≡ text_bytes a ++ (text_bytes b ++ rest)
unfolding pair_bytes
pair_written bytes a b rest e = two_written bytes (text_bytes a) (text_bytes b) rest e

pub pair_read : (bytes a after b rest : List ℕ) → bytes ≡ text_bytes a ++ after → after ≡ text_bytes b ++ rest → bytes ≡ pair_bytes a b ++ rest
unfolding pair_bytes
pair_read bytes a after b rest e f = two_read bytes (text_bytes a) after (text_bytes b) rest e f

pub subject_written : (bytes rest : List ℕ) (s : Subject) → bytes ≡ subject_bytes s ++ rest → bytes ≡ words_bytes s.words ++ (text_bytes s.header ++ (number_bytes s.sources ++ rest))
unfolding subject_bytes
subject_written bytes rest s e =
    two_written bytes (words_bytes s.words) (text_bytes s.header ++ number_bytes s.sources) rest e
    ∙ ap (λ (bs : List ℕ). words_bytes s.words ++ bs) (append_assoc (text_bytes s.header) (number_bytes s.sources) rest)

pub subject_read : (bytes after next rest header : List ℕ) (words : Words) (sources : ℕ) → bytes ≡ words_bytes words ++ after → after ≡ text_bytes header ++ next → next ≡ number_bytes sources ++ rest
    → bytes ≡ subject_bytes (record { words = words; header = header; sources = sources }) ++ rest
unfolding subject_bytes
subject_read bytes after next rest header words sources e f g = two_read bytes (words_bytes words) after (text_bytes header ++ number_bytes sources) rest e (two_read after (text_bytes header) next (number_bytes sources) rest f g)

pub head_written : (bytes : List ℕ) (p : Preface) → bytes ≡ head_bytes p → bytes ≡ subject_bytes p.subject ++ (cover_bytes p.cover ++ keys_bytes p.keys)
unfolding head_bytes
head_written bytes p e = e

pub head_read : (bytes after next : List ℕ) (subject : Subject) (cover : List Stretch) (keys : Keys) → bytes ≡ subject_bytes subject ++ after → after ≡ cover_bytes cover ++ next → next ≡ keys_bytes keys
    → bytes ≡ head_bytes (record { subject = subject; cover = cover; keys = keys })
unfolding head_bytes
head_read bytes after next subject cover keys e f g = e ∙ ap (λ (bs : List ℕ). subject_bytes subject ++ bs) (f ∙ ap (λ (bs : List ℕ). cover_bytes cover ++ bs) g)

-- values by their fields
pub words_same : (v w : Words) → v.group ≡ w.group → v.agg ≡ w.agg → v.filter ≡ w.filter → v.decimals ≡ w.decimals → v ≡ w
words_same v w e f g h =
    ap (λ (t : List ℕ). the (record { group = t; agg = v.agg; filter = v.filter; decimals = v.decimals })) e ∙ ap (λ (t : List ℕ). the (record { group = w.group; agg = t; filter = v.filter; decimals = v.decimals })) f
    ∙ ap (λ (t : List ℕ). the (record { group = w.group; agg = w.agg; filter = t; decimals = v.decimals })) g ∙ ap (λ (t : List ℕ). the (record { group = w.group; agg = w.agg; filter = w.filter; decimals = t })) h
  where
    the : Words → Words
    the u = u

pub keys_same : (j k : Keys) → j.low ≡ k.low → j.high ≡ k.high → j ≡ k
keys_same j k e f = ap (λ (t : List ℕ). the (record { low = t; high = j.high })) e ∙ ap (λ (t : List ℕ). the (record { low = k.low; high = t })) f
  where
    the : Keys → Keys
    the u = u

pub subject_same : (r s : Subject) → r.words ≡ s.words → r.header ≡ s.header → r.sources ≡ s.sources → r ≡ s
subject_same r s e f g =
    ap (λ (w : Words). the (record { words = w; header = r.header; sources = r.sources })) e ∙ ap (λ (t : List ℕ). the (record { words = s.words; header = t; sources = r.sources })) f
    ∙ ap (λ (n : ℕ). the (record { words = s.words; header = s.header; sources = n })) g
  where
    the : Subject → Subject
    the u = u

pub preface_same : (p q : Preface) → p.subject ≡ q.subject → p.cover ≡ q.cover → p.keys ≡ q.keys → p ≡ q
preface_same p q e f g =
    ap (λ (s : Subject). the (record { subject = s; cover = p.cover; keys = p.keys })) e ∙ ap (λ (c : List Stretch). the (record { subject = q.subject; cover = c; keys = p.keys })) f
    ∙ ap (λ (k : Keys). the (record { subject = q.subject; cover = q.cover; keys = k })) g
  where
    the : Preface → Preface
    the u = u
