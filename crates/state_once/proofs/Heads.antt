-- The front of a file: bytes begin with one.
use Rattle.std.proofs.Common.{◌≡◌, ◌<◌, ◌^◌, ◌++◌, ◌∙◌, ℕ, List, [], ◌∷◌, All, None, ap, append_assoc, arith, length, refl, sym}
use Rattle.std.specs.List.{flat_map}
use Rattle.std.proofs.lemmas.List.Elements.{All-head, All-tail}
use Rattle.state_cover.proofs.Each.{cover_each}
use Rattle.state_file.specs.Number.{number_bytes}
use Rattle.state_file.specs.Section.{section}
use Rattle.state_file.specs.Text.{text_bytes}
use Rattle.state_front.specs.Front.{front_bytes, name_bytes, version_bytes}
use Rattle.state_head.specs.Cover.{AreRows, IsCover, IsPlace, IsStretch, cover_bytes, place_bytes, rows_bytes, stretch_bytes}
use Rattle.state_head.specs.Head.{IsHead, IsSubject, Preface, Subject, head_bytes, subject_bytes}
use Rattle.state_head.specs.Words.{AreKeys, AreWords, Keys, Words, keys_bytes, pair_bytes, words_bytes}
use Rattle.state_head.specs.declared.cover.Place.{Place}
use Rattle.state_head.specs.declared.cover.Rows.{Rows}
use Rattle.state_head.specs.declared.cover.Rows.TheVariants.{Counted, Refused}
use Rattle.state_head.specs.declared.cover.Stretch.{Stretch}
use Rattle.state_once.specs.Once.{FrontIsOnce}
use Rattle.state_once.proofs.Numbers.{number_apart, number_then, parts_apart, section_apart, text_apart, text_then}

-- ---- a stretch

place_apart : (m n : ℕ) (p q : Place) (x y : List ℕ) → m < 2 ^ 32 → n < 2 ^ 32 → IsPlace m p → IsPlace n q → place_bytes p ++ x ≡ place_bytes q ++ y → (p ≡ q) × (x ≡ y)
unfolding place_bytes
place_apart m n p q x y few few' h k e =
    let hs = h.source in
    let ks = k.source in
    let ho = h.order in
    let ko = k.order in
    let hw = h.within in
    let kw = k.within in
    let hf = h.fits in
    let kf = k.fits in
    let a = number_then p.source q.source (number_bytes p.from ++ (number_bytes p.to ++ number_bytes p.size)) (number_bytes q.from ++ (number_bytes q.to ++ number_bytes q.size)) x y (omega (arith, hs, few)) (omega (arith, ks, few')) e in
    let b = number_then p.from q.from (number_bytes p.to ++ number_bytes p.size) (number_bytes q.to ++ number_bytes q.size) x y (omega (arith, ho, hw, hf)) (omega (arith, ko, kw, kf)) a.1 in
    let c = number_then p.to q.to (number_bytes p.size) (number_bytes q.size) x y (omega (arith, hw, hf)) (omega (arith, kw, kf)) b.1 in
    let d = number_apart p.size q.size x y (omega (arith, hf)) (omega (arith, kf)) c.1 in
    (λ i. record { source = a.0 i; from = b.0 i; to = c.0 i; size = d.0 i }, d.1)

rows_apart : (r s : Rows) (x y : List ℕ) → AreRows r → AreRows s → rows_bytes r ++ x ≡ rows_bytes s ++ y → (r ≡ s) × (x ≡ y)
unfolding rows_bytes
rows_apart (Counted n) (Counted m) x y h k e =
    let a = number_then 0 0 (number_bytes n) (number_bytes m) x y (omega arith) (omega arith) e in
    let b = number_apart n m x y (omega (arith, h)) (omega (arith, k)) a.1 in
    (ap Counted b.0, b.1)
rows_apart (Counted n) (Refused why) x y h k e =
    let first = k.first in
    let last = k.last in
    let a = (number_then 0 why.row (number_bytes n) (number_bytes why.cause ++ number_bytes why.item) x y (omega arith) (omega (arith, last)) e).0 in
    absurd (omega (arith, first, a))
rows_apart (Refused why) (Counted m) x y h k e =
    let first = h.first in
    let last = h.last in
    let a = (number_then why.row 0 (number_bytes why.cause ++ number_bytes why.item) (number_bytes m) x y (omega (arith, last)) (omega arith) e).0 in
    absurd (omega (arith, first, a))
rows_apart (Refused why) (Refused other) x y h k e =
    let hl = h.last in
    let kl = k.last in
    let hf = h.few in
    let kf = k.few in
    let hi = h.item in
    let ki = k.item in
    let a = number_then why.row other.row (number_bytes why.cause ++ number_bytes why.item) (number_bytes other.cause ++ number_bytes other.item) x y (omega (arith, hl)) (omega (arith, kl)) e in
    let b = number_then why.cause other.cause (number_bytes why.item) (number_bytes other.item) x y (omega (arith, hf)) (omega (arith, kf)) a.1 in
    let c = number_apart why.item other.item x y (omega (arith, hi)) (omega (arith, ki)) b.1 in
    (λ i. Refused (record { row = a.0 i; cause = b.0 i; item = c.0 i }), c.1)

stretch_apart : (m n : ℕ) (s t : Stretch) (x y : List ℕ) → m < 2 ^ 32 → n < 2 ^ 32 → IsStretch m s → IsStretch n t → stretch_bytes s ++ x ≡ stretch_bytes t ++ y → (s ≡ t) × (x ≡ y)
unfolding stretch_bytes
stretch_apart m n s t x y few few' h k e =
    let a = place_apart m n s.place t.place (rows_bytes s.rows ++ x) (rows_bytes t.rows ++ y) few few' h.is_place k.is_place (sym (append_assoc (place_bytes s.place) (rows_bytes s.rows) x) ∙ e ∙ append_assoc (place_bytes t.place) (rows_bytes t.rows) y) in
    let b = rows_apart s.rows t.rows x y h.are_rows k.are_rows a.1 in
    (λ i. record { place = a.0 i; rows = b.0 i }, b.1)

-- ---- a cover

stretches_apart : (m n : ℕ) (c d : List Stretch) (x y : List ℕ) → m < 2 ^ 32 → n < 2 ^ 32 → All (IsStretch m) c → All (IsStretch n) d → length c ≡ length d → flat_map stretch_bytes c ++ x ≡ flat_map stretch_bytes d ++ y → (c ≡ d) × (x ≡ y)
stretches_apart m n [] [] x y few few' h k long e = (refl, e)
stretches_apart m n [] (t ∷ d) x y few few' h k long e = absurd (omega (arith, long))
stretches_apart m n (s ∷ c) [] x y few few' h k long e = absurd (omega (arith, long))
stretches_apart m n (s ∷ c) (t ∷ d) x y few few' h k long e =
    let a = stretch_apart m n s t (flat_map stretch_bytes c ++ x) (flat_map stretch_bytes d ++ y) few few' (All-head (IsStretch m) s c h) (All-head (IsStretch n) t d k)
    (sym (append_assoc (stretch_bytes s) (flat_map stretch_bytes c) x) ∙ e ∙ append_assoc (stretch_bytes t) (flat_map stretch_bytes d) y) in
    let b = stretches_apart m n c d x y few few' (All-tail (IsStretch m) s c h) (All-tail (IsStretch n) t d k) (omega (arith, long)) a.1 in
    (ap (λ (z : Stretch). z ∷ c) a.0 ∙ ap (λ (l : List Stretch). t ∷ l) b.0, b.1)

cover_apart : (m n : ℕ) (c d : List Stretch) (x y : List ℕ) → m < 2 ^ 32 → n < 2 ^ 32 → IsCover m c → IsCover n d → cover_bytes c ++ x ≡ cover_bytes d ++ y → (c ≡ d) × (x ≡ y)
unfolding cover_bytes
cover_apart m n c d x y few few' h k e =
    let hf = h.few in
    let kf = k.few in
    let a = number_then (length c) (length d) (flat_map stretch_bytes c) (flat_map stretch_bytes d) x y (omega (arith, hf)) (omega (arith, kf)) e in
    stretches_apart m n c d x y few few' (cover_each m None c h.stretches) (cover_each n None d k.stretches) a.0 a.1

-- ---- texts

pair_apart : (a b c d x y : List ℕ) → length a < 2 ^ 128 → length b < 2 ^ 128 → length c < 2 ^ 128 → length d < 2 ^ 128 → pair_bytes a b ++ x ≡ pair_bytes c d ++ y → (a ≡ c) × (b ≡ d) × (x ≡ y)
unfolding pair_bytes
pair_apart a b c d x y ha hb hc hd e =
    let one = text_then a c (text_bytes b) (text_bytes d) x y ha hc e in
    let two = text_apart b d x y hb hd one.1 in
    (one.0, two.0, two.1)

words_apart : (v w : Words) (x y : List ℕ) → AreWords v → AreWords w → words_bytes v ++ x ≡ words_bytes w ++ y → (v ≡ w) × (x ≡ y)
words_apart v w x y h k e =
    let hg = h.group in
    let kg = k.group in
    let ha = h.agg in
    let ka = k.agg in
    let hf = h.filter in
    let kf = k.filter in
    let hd = h.decimals in
    let kd = k.decimals in
    let first = sym (append_assoc (pair_bytes v.group v.agg) (pair_bytes v.filter v.decimals) x) ∙ e ∙ append_assoc (pair_bytes w.group w.agg) (pair_bytes w.filter w.decimals) y in
    let a = pair_apart v.group v.agg w.group w.agg (pair_bytes v.filter v.decimals ++ x) (pair_bytes w.filter w.decimals ++ y) (omega (arith, hg)) (omega (arith, ha)) (omega (arith, kg)) (omega (arith, ka)) first in
    let b = pair_apart v.filter v.decimals w.filter w.decimals x y (omega (arith, hf)) (omega (arith, hd)) (omega (arith, kf)) (omega (arith, kd)) a.2 in
    (λ i. record { group = a.0 i; agg = a.1 i; filter = b.0 i; decimals = b.1 i }, b.2)

keys_apart : (j k : Keys) (x y : List ℕ) → AreKeys j → AreKeys k → keys_bytes j ++ x ≡ keys_bytes k ++ y → (j ≡ k) × (x ≡ y)
keys_apart j k x y h g e =
    let hl = h.low in
    let gl = g.low in
    let hh = h.high in
    let gh = g.high in
    let a = pair_apart j.low j.high k.low k.high x y (omega (arith, hl)) (omega (arith, hh)) (omega (arith, gl)) (omega (arith, gh)) e in
    (λ i. record { low = a.0 i; high = a.1 i }, a.2)

-- ---- the head

subject_apart : (s t : Subject) (x y : List ℕ) → IsSubject s → IsSubject t → subject_bytes s ++ x ≡ subject_bytes t ++ y → (s ≡ t) × (x ≡ y)
unfolding subject_bytes
subject_apart s t x y h k e =
    let hh = h.header in
    let kh = k.header in
    let hf = h.few in
    let kf = k.few in
    let first = sym (append_assoc (words_bytes s.words) (text_bytes s.header ++ number_bytes s.sources) x) ∙ e ∙ append_assoc (words_bytes t.words) (text_bytes t.header ++ number_bytes t.sources) y in
    let a = words_apart s.words t.words ((text_bytes s.header ++ number_bytes s.sources) ++ x) ((text_bytes t.header ++ number_bytes t.sources) ++ y) h.are_words k.are_words first in
    let b = text_then s.header t.header (number_bytes s.sources) (number_bytes t.sources) x y (omega (arith, hh)) (omega (arith, kh)) a.1 in
    let c = number_apart s.sources t.sources x y (omega (arith, hf)) (omega (arith, kf)) b.1 in
    (λ i. record { words = a.0 i; header = b.0 i; sources = c.0 i }, c.1)

head_once : (p q : Preface) → IsHead p → IsHead q → head_bytes p ≡ head_bytes q → p ≡ q
unfolding head_bytes
head_once p q h k e =
    let a = subject_apart p.subject q.subject (cover_bytes p.cover ++ keys_bytes p.keys) (cover_bytes q.cover ++ keys_bytes q.keys) h.is_subject k.is_subject e in
    let b = cover_apart p.subject.sources q.subject.sources p.cover q.cover (keys_bytes p.keys) (keys_bytes q.keys) h.is_subject.few k.is_subject.few h.is_cover k.is_cover a.1 in
    let c = keys_apart p.keys q.keys [] [] h.are_keys k.are_keys (ap (λ (l : List ℕ). l ++ []) b.1) in
    λ i. record { subject = a.0 i; cover = b.0 i; keys = c.0 i }

pub front_is_once : FrontIsOnce
unfolding front_bytes
front_is_once p q x y h k e =
    let hs = h.short in
    let ks = k.short in
    let one = sym (append_assoc name_bytes (version_bytes ++ section (head_bytes p)) x) ∙ e ∙ append_assoc name_bytes (version_bytes ++ section (head_bytes q)) y in
    let a = (parts_apart name_bytes name_bytes ((version_bytes ++ section (head_bytes p)) ++ x) ((version_bytes ++ section (head_bytes q)) ++ y) refl one).1 in
    let two = sym (append_assoc version_bytes (section (head_bytes p)) x) ∙ a ∙ append_assoc version_bytes (section (head_bytes q)) y in
    let b = (parts_apart version_bytes version_bytes (section (head_bytes p) ++ x) (section (head_bytes q) ++ y) refl two).1 in
    let c = section_apart (head_bytes p) (head_bytes q) x y (omega (arith, hs)) (omega (arith, ks)) b in
    (head_once p q h.is_head k.is_head c.0, c.1)
