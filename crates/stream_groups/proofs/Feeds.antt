-- The lines of some windows, and their line feeds.
use Rattle.std.proofs.Common.{◌≡◌, ◌<◌, ◌≤◌, ◌+◌, ◌++◌, ◌∙◌, ℕ, List, [], ◌∷◌, length, take, drop, get_or, map, ap, sym, arith, append-nil, length-append, take-append-drop}
use Rattle.std.specs.List.{concat}
use Rattle.std.proofs.lemmas.List.{map-append, take_more}
use Rattle.std.proofs.lemmas.List.Concat.{flat_map-append}
use Rattle.row_windows.specs.Stretch.{Stretch}
use Rattle.text_lines.specs.Feeds.{count_feeds}
use Rattle.text_lines.proofs.Counts.{count_append, count_none}
use Rattle.stream_groups.specs.Begins.{feeds_of, lines_of}

pub lines_apart : (xs ys : List Stretch) → lines_of (xs ++ ys) ≡ lines_of xs ++ lines_of ys
lines_apart xs ys = ap concat (map-append (λ (w : Stretch). w.lines) xs ys) ∙ flat_map-append (λ (l : List ℕ). l) (map (λ (w : Stretch). w.lines) xs) (map (λ (w : Stretch). w.lines) ys)

pub lines_next : (xs : List Stretch) (p : Stretch) → lines_of (xs ++ p ∷ []) ≡ lines_of xs ++ p.lines
lines_next xs p = lines_apart xs (p ∷ []) ∙ ap (λ (l : List ℕ). lines_of xs ++ l) (append-nil p.lines)

pub feeds_apart : (xs ys : List Stretch) → feeds_of (xs ++ ys) ≡ feeds_of xs + feeds_of ys
feeds_apart xs ys = ap count_feeds (lines_apart xs ys) ∙ count_append (lines_of xs) (lines_of ys)

pub feeds_one : (p : Stretch) → feeds_of (p ∷ []) ≡ count_feeds p.lines
feeds_one p = ap count_feeds (append-nil p.lines)

-- no windows have none
pub feeds_none : (pieces : List Stretch) → pieces ≡ [] → feeds_of pieces ≡ 0
feeds_none pieces none = ap feeds_of none ∙ count_none

-- one window more
pub feeds_more : (xs : List Stretch) (p : Stretch) → feeds_of (xs ++ p ∷ []) ≡ feeds_of xs + count_feeds p.lines
feeds_more xs p = feeds_apart xs (p ∷ []) ∙ ap (λ n. feeds_of xs + n) (feeds_one p)

pub feeds_next : (pieces : List Stretch) (at : ℕ) (p : Stretch) → at < length pieces → p ≡ get_or pieces at p → feeds_of (take (at + 1) pieces) ≡ feeds_of (take at pieces) + count_feeds p.lines
feeds_next pieces at p low is =
    let next : take (at + 1) pieces ≡ take at pieces ++ p ∷ [] = take_more pieces at p low ∙ ap (λ (q : Stretch). take at pieces ++ q ∷ []) (sym is) in
    ap feeds_of next ∙ feeds_more (take at pieces) p

pub lines_upto : (pieces : List Stretch) (at : ℕ) (p : Stretch) → at < length pieces → p ≡ get_or pieces at p → length (lines_of (take (at + 1) pieces)) ≡ length (lines_of (take at pieces)) + length p.lines
lines_upto pieces at p low is =
    let next : take (at + 1) pieces ≡ take at pieces ++ p ∷ [] = take_more pieces at p low ∙ ap (λ (q : Stretch). take at pieces ++ q ∷ []) (sym is) in
    ap (λ (ps : List Stretch). length (lines_of ps)) next ∙ (ap length (lines_next (take at pieces) p) ∙ length-append (lines_of (take at pieces)) p.lines)

-- a front has no more than all
pub feeds_within : (pieces : List Stretch) (at : ℕ) → feeds_of (take at pieces) ≤ feeds_of pieces
feeds_within pieces at = omega (arith, feeds_apart (take at pieces) (drop at pieces), ap feeds_of (take-append-drop at pieces))
