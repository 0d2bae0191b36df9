-- A text that is cut at rising places, and what is read behind it.
use Rattle.std.proofs.Common.{◌≡◌, ◌≤◌, ◌+◌, ◌-◌, ◌∙◌, ℕ, List, [], ◌++◌, Option, length, take, drop, refl, sym, ap, arith, min, append_assoc, length-append}
use Rattle.std.proofs.lemmas.List.{drop-drop, drop-take, length-drop, length-take, take-take}
use Rattle.std.proofs.Math.Seq.{take-add}
use Rattle.std.proofs.KnownBytes.{Consumes-trans}
use Rattle.std.specs.Io.KnownBytes.{Consumes}
use Rattle.row_windows.specs.Stretch.{Fills, IsLostWindow, IsWindow, LosesRead, Stretch, between}
use Rattle.row_windows.specs.declared.window.TheConstants.{MOST_RECORD_BYTES}

-- a stretch and the one behind it
pub between-add : (a b c : ℕ) (text : List ℕ) → a ≤ b → b ≤ c → between a c text ≡ between a b text ++ between b c text
between-add a b c text low high =
    let whole : c - a ≡ (b - a) + (c - b) = omega (arith, low, high) in
    let at : a + (b - a) ≡ b = omega (arith, low) in
    ap (λ n. take n (drop a text)) whole ∙ (take-add (b - a) (c - b) (drop a text) ∙ ap (λ xs. between a b text ++ take (c - b) xs) (drop-drop (b - a) a text ∙ ap (λ n. drop n text) at))

-- without a header the lines begin the text
pub no-header : (text : List ℕ) (h e f : ℕ) → IsWindow text h e f → take h text ≡ [] → h ≡ 0
no-header text h e f window none =
    let size : min h (length text) ≡ 0 = sym (length-take h text) ∙ ap length none in
    omega (arith, size, window.low, window.high, window.within)

-- and without lines the header's end is theirs
pub window-lines : (text : List ℕ) (h e f : ℕ) → IsWindow text h e f → between h e text ≡ [] → e ≡ h
window-lines text h e f window none =
    let size : min (e - h) (length text - h) ≡ 0 = sym (length-take (e - h) (drop h text) ∙ ap (min (e - h)) (length-drop h text)) ∙ ap length none in
    omega (arith, size, window.low, window.high, window.within)

-- texts with one front have one of each shorter front
pub front-less : (m n : ℕ) (xs ys : List ℕ) → m ≤ n → take n xs ≡ take n ys → take m xs ≡ take m ys
front-less m n xs ys le same = sym (take-take m n xs le) ∙ (ap (take m) same ∙ take-take m n ys le)

-- and so have one stretch within it
pub stretch-same : (a b n : ℕ) (xs ys : List ℕ) → a ≤ b → b ≤ n → take n xs ≡ take n ys → between a b xs ≡ between a b ys
stretch-same a b n xs ys low high same =
    let at : a + (b - a) ≡ b = omega (arith, low) in
    let front : take (a + (b - a)) xs ≡ take (a + (b - a)) ys = rw at (front-less b n xs ys high same) in
    sym (drop-take a (b - a) xs) ∙ (ap (drop a) front ∙ drop-take a (b - a) ys)

-- n bytes more were read into ys, which keeps what was filled of xs
pub read-more : (a b c : Option (List ℕ)) (xs ys : List ℕ) (from filled n : ℕ) → from ≤ filled → take filled ys ≡ take filled xs
    → Consumes a b (take (filled - from) (drop from xs)) → Consumes b c (take n (drop filled ys)) → Consumes a c (take (filled + n - from) (drop from ys))
read-more a b c xs ys from filled n low front before read =
    let end : (filled + n) - filled ≡ n = omega arith in
    let first = stretch-same from filled filled xs ys low (omega arith) (sym front) in
    let all = between-add from filled (filled + n) ys low (omega arith) in
    let both = Consumes-trans a b c _ _ before read in
    rw (all, ← first, end) both

-- what was read already and what is read of a source are cut anywhere
pub window-reads : (old new : List ℕ) (h e f u end : ℕ) (a b : Option (List ℕ)) → IsWindow old h e f → between h e old ≡ [] → take f new ≡ take f old → f ≤ u
    → Consumes a b (between f u new) → h ≤ end → end ≤ u → Fills a b (between e f old) (between h end new ++ between end u new)
window-reads old new h e f u end a b window none front up read low high =
    let same = window-lines old h e f window none in
    let rest : between e f old ≡ between h f new = ap (λ n. between n f old) same ∙ stretch-same h f f old new (omega (arith, window.low, window.high)) (omega arith) (sym front) in
    let whole = between-add h end u new low high in
    let parts = between-add h f u new (omega (arith, window.low, window.high)) up in
    (between f u new, read, sym whole ∙ (parts ∙ ap (λ xs. xs ++ between f u new) (sym rest)))

-- the first lines of a window become its header
pub header-takes : (text : List ℕ) (h e f at : ℕ) → IsWindow text h e f → take h text ≡ [] → at ≤ length (between h e text)
    → (take at text ≡ take at (between h e text)) × (between at e text ≡ drop at (between h e text))
header-takes text h e f at window none within =
    let zero = no-header text h e f window none in
    let same : e - 0 ≡ e = omega arith in
    let whole : between h e text ≡ take e text = ap (λ n. between n e text) zero ∙ ap (λ n. take n text) same in
    let low : at ≤ e = omega (arith, within, ap length whole, length-take e text) in
    let end : at + (e - at) ≡ e = omega (arith, low) in
    (sym (ap (take at) whole ∙ take-take at e text low), sym (drop-take at (e - at) text) ∙ (ap (λ n. drop at (take n text)) end ∙ sym (ap (drop at) whole)))

-- nothing stands between a place and itself
pub between-none : (n : ℕ) (text : List ℕ) → between n n text ≡ []
between-none n text =
    let none : n - n ≡ 0 = omega arith in
    ap (λ k. take k (drop n text)) none

-- bytes that were read, and then more
pub fills-more : (a b c : Option (List ℕ)) (rest middle text : List ℕ) → Fills a b rest middle → Fills b c middle text → Fills a c rest text
fills-more a b c rest middle text first second =
    (first.0 ++ second.0, Consumes-trans a b c first.0 second.0 first.1 second.1, second.2 ∙ (ap (λ xs. xs ++ second.0) first.2 ∙ append_assoc rest first.0 second.0))

-- a window of which the last reading failed
pub lost-window : (a b c : Option (List ℕ)) (was : Stretch) (rest : List ℕ) (goal : ℕ) → Fills a b was.rest rest → LosesRead b c (length rest) goal → goal ≤ MOST_RECORD_BYTES + 1 → IsLostWindow a c was
lost-window a b c was rest goal before lost low =
    let text = rest ++ lost.0 in
    record { text = text; reads = fills-more a b c was.rest rest text before (lost.0, lost.1, refl); few = omega (arith, length-append rest lost.0, lost.2, low) }
