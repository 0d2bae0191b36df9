-- Keys at which ranges begin.
use Rattle.std.proofs.Common.{◌≡◌, ◌==◌, ◌<◌, ◌+◌, ◌||◌, ◌++◌, ◌∙◌, ℕ, zero, suc, Bool, true, false, List, [], ◌∷◌, ap, append_assoc, arith, drop, get_or, length, map, refl, sym}
use Rattle.std.proofs.Math.Seq.{drop-cons, drop-length}
use Rattle.std.specs.Global.{Vec}
use Rattle.std.proofs.lemmas.Bool.{true≢false}
use Rattle.state_head.specs.Words.{Keys}
use Rattle.state_order.specs.Ranges.{is_before, is_open}
use Rattle.state_range.specs.Ranges.{RiseFrom, ranges_from}
use Rattle.state_ranges.specs.Parts.{bytes_of}

-- the last of some keys, or the low end before them
abbrev pub last_of : List ℕ → List (List ℕ) → List ℕ
last_of low [] = low
last_of low (cut ∷ cuts) = last_of cut cuts

pub rise_push : (n : ℕ) (low : List ℕ) (cuts : List (List ℕ)) (key : List ℕ) → is_open key ≡ false → (is_open (last_of low cuts) || is_before n (last_of low cuts) key) ≡ true → RiseFrom n low cuts → RiseFrom n low (cuts ++ key ∷ [])
rise_push n low [] key closed after rise = (closed, after, tt)
rise_push n low (cut ∷ cuts) key closed after rise = (rise.0, rise.1, rise_push n cut cuts key closed after rise.2)

pub last-push : (low : List ℕ) (cuts : List (List ℕ)) (key : List ℕ) → last_of low (cuts ++ key ∷ []) ≡ key
last-push low [] key = refl
last-push low (cut ∷ cuts) key = last-push cut cuts key

pub closed_of : (key : List ℕ) (b : Bool) → b ≡ (length key == 0) → b ≡ false → is_open key ≡ false
closed_of [] b e f = absurd (true≢false (sym e ∙ f))
closed_of (x ∷ key) b e f = refl

pub or_after : (free before : Bool) → before ≡ true → (free || before) ≡ true
or_after true before e = refl
or_after false before e = e

-- the last of some keys by its place
pub last_at : (low : List ℕ) (cuts : List (Vec ℕ)) (k : ℕ) (d : Vec ℕ) → k + 1 ≡ length cuts → last_of low (map bytes_of cuts) ≡ (get_or cuts k d).items
last_at low [] k d e = absurd (omega (arith, e))
last_at low (c ∷ []) zero d e = refl
last_at low (c ∷ []) (suc k) d e = absurd (omega (arith, e))
last_at low (c ∷ b ∷ cuts) zero d e = absurd (omega (arith, e))
last_at low (c ∷ b ∷ cuts) (suc k) d e = last_at c.items (b ∷ cuts) k d (omega (arith, e))

pub push_after : (n : ℕ) (cuts : List (Vec ℕ)) (last key : List ℕ) (k : ℕ) (d : Vec ℕ) (less : Bool) → is_open key ≡ false → k + 1 ≡ length cuts → last ≡ (get_or cuts k d).items → less ≡ is_before n last key → less ≡ true → RiseFrom n [] (map bytes_of cuts)
    → RiseFrom n [] (map bytes_of cuts ++ key ∷ [])
push_after n cuts last key k d less closed many is test holds rise =
    let whole : last ≡ last_of [] (map bytes_of cuts) = is ∙ sym (last_at [] cuts k d many) in
    rise_push n [] (map bytes_of cuts) key closed (or_after (is_open (last_of [] (map bytes_of cuts))) (is_before n (last_of [] (map bytes_of cuts)) key) (ap (λ (x : List ℕ). is_before n x key) (sym whole) ∙ sym test ∙ holds)) rise

-- ---- the ranges between some keys, one after another

pub next_range : (rs all : List Keys) (low high : List ℕ) (cuts : List (Vec ℕ)) (at : ℕ) (d : Vec ℕ) → at < length cuts → high ≡ (get_or cuts at d).items → rs ++ ranges_from low (map bytes_of (drop at cuts)) ≡ all
    → (rs ++ (record { low = low; high = high }) ∷ []) ++ ranges_from high (map bytes_of (drop (at + 1) cuts)) ≡ all
next_range rs all low high cuts at d lt is e =
    let one : suc at ≡ at + 1 = omega arith in
    let left : drop at cuts ≡ get_or cuts at d ∷ drop (at + 1) cuts = drop-cons cuts at d lt ∙ ap (λ (n : ℕ). get_or cuts at d ∷ drop n cuts) one in
    let to : ranges_from low (map bytes_of (drop at cuts)) ≡ (record { low = low; high = high }) ∷ ranges_from high (map bytes_of (drop (at + 1) cuts)) =
    ap (λ (cs : List (Vec ℕ)). ranges_from low (map bytes_of cs)) left ∙ ap (λ (h : List ℕ). (record { low = low; high = h }) ∷ ranges_from h (map bytes_of (drop (at + 1) cuts))) (sym is) in
    append_assoc rs ((record { low = low; high = high }) ∷ []) (ranges_from high (map bytes_of (drop (at + 1) cuts))) ∙ ap (λ (xs : List Keys). rs ++ xs) (sym to) ∙ e

pub last_range : (rs all : List Keys) (low : List ℕ) (cuts : List (Vec ℕ)) (at : ℕ) → at ≡ length cuts → rs ++ ranges_from low (map bytes_of (drop at cuts)) ≡ all → rs ++ (record { low = low; high = [] }) ∷ [] ≡ all
last_range rs all low cuts at end e =
    let none : drop at cuts ≡ [] = ap (λ (n : ℕ). drop n cuts) end ∙ drop-length cuts in
    ap (λ (cs : List (Vec ℕ)). rs ++ ranges_from low (map bytes_of cs)) (sym none) ∙ e
