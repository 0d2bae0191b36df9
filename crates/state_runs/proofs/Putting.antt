-- What is put of runs into a file: so far, and at the end.
use Rattle.std.proofs.Common.{◌≡◌, ◌<◌, ◌≤◌, ◌+◌, ◌++◌, ◌∷◌, ◌∙◌, ℕ, zero, suc, Bool, List, [], ap, append_assoc, append-nil, arith, drop, get_or, length, map, refl, subst, sym, take, take-append-drop}
use Rattle.std.proofs.lemmas.List.{get_or-map, length-map, take_all, take_more}
use Rattle.std.proofs.lemmas.List.Concat.{flat_map-append}
use Rattle.line_runs.specs.Entries.{Entry, all_entries, no_entry}
use Rattle.state_blocks.specs.Blocks.{Group}
use Rattle.state_groups.specs.Group.{values_bytes}
use Rattle.state_writer.specs.Writing.{FitInBlocks, Goes, HasTaken}
use Rattle.state_writer.specs.declared.writer.BodyWriter.{BodyWriter}
use Rattle.state_writer.proofs.Long.{fit_front}
use Rattle.state_runs.specs.Runs.{entry_of}

abbrev pub no_group : Group
no_group = record { key = []; rows = 0; slots = [] }

-- ---- bytes after bytes

pub goes_none : (kinds : List Bool) (start : ℕ) (groups : List Group) (written out : List ℕ) (w : BodyWriter) → HasTaken kinds start groups written w → Goes kinds start groups written out out w
goes_none kinds start groups written out w has = record { more = []; is = sym (append-nil out); taken = subst (λ (bs : List ℕ). HasTaken kinds start groups bs w) (sym (append-nil written)) has }

pub goes_on : (kinds : List Bool) (start : ℕ) (groups more : List Group) (written out now next : List ℕ) (w v : BodyWriter) (one : Goes kinds start groups written out now w) → Goes kinds start more (written ++ one.more) now next v → Goes kinds start more written out next v
goes_on kinds start groups more written out now next w v one two = record {
  more = one.more ++ two.more;
  is = two.is ∙ ap (λ (bs : List ℕ). bs ++ two.more) one.is ∙ append_assoc out one.more two.more;
  taken = subst (λ (bs : List ℕ). HasTaken kinds start more bs v) (append_assoc written one.more two.more) two.taken;
}

-- ---- the tuples of one run

-- those of the places before this one
abbrev pub IsPutTo : List Entry → ℕ → BodyWriter → List ℕ → BodyWriter → List ℕ → Type 0
IsPutTo run at w0 out w now =
    (kinds : List Bool) (start : ℕ) (groups tuples : List Group) (written : List ℕ) → HasTaken kinds start groups written w0 → run ≡ map (entry_of kinds) tuples → Goes kinds start (groups ++ take at tuples) written out now w

pub none_put : (run : List Entry) (w : BodyWriter) (out : List ℕ) → IsPutTo run 0 w out w out
none_put run w out kinds start groups tuples written has is = goes_none kinds start (groups ++ []) written out w (subst (λ (gs : List Group). HasTaken kinds start gs written w) (sym (append-nil groups)) has)

-- the tuple at a place is what a run has there
there : (kinds : List Bool) (run : List Entry) (tuples : List Group) (at : ℕ) → at < length run → run ≡ map (entry_of kinds) tuples → (at < length tuples) × (get_or run at no_entry ≡ entry_of kinds (get_or tuples at no_group))
there kinds run tuples at lt is =
    let low : at < length tuples = omega (arith, lt, ap (length {A = Entry}) is, length-map tuples (entry_of kinds)) in
    (low, ap (λ (es : List Entry). get_or es at no_entry) is ∙ get_or-map (entry_of kinds) tuples at no_group no_entry low)

pub one_put : (run : List Entry) (at : ℕ) (w0 w v : BodyWriter) (out now next key values : List ℕ) → at < length run → key ≡ (get_or run at no_entry).0 → values ≡ (get_or run at no_entry).1 → IsPutTo run at w0 out w now
    → ((kinds : List Bool) (start : ℕ) (groups : List Group) (written : List ℕ) (g : Group) → HasTaken kinds start groups written w → g.key ≡ key → values_bytes kinds g.rows g.slots ≡ values → Goes kinds start (groups ++ g ∷ []) written now next v)
    → IsPutTo run (at + 1) w0 out v next
one_put run at w0 w v out now next key values lt key_is values_are put more kinds start groups tuples written has is =
    let one = put kinds start groups tuples written has is in
    let at_tuple = there kinds run tuples at lt is in
    let g = get_or tuples at no_group in
    let two = more kinds start (groups ++ take at tuples) (written ++ one.more) g one.taken (sym (key_is ∙ ap (λ (e : Entry). e.0) at_tuple.1)) (sym (values_are ∙ ap (λ (e : Entry). e.1) at_tuple.1)) in
    let all : (groups ++ take at tuples) ++ g ∷ [] ≡ groups ++ take (at + 1) tuples = append_assoc groups (take at tuples) (g ∷ []) ∙ ap (λ (ts : List Group). groups ++ ts) (sym (take_more tuples at no_group at_tuple.0)) in
    subst (λ (gs : List Group). Goes kinds start gs written out next v) all (goes_on kinds start (groups ++ take at tuples) ((groups ++ take at tuples) ++ g ∷ []) written out now next w v one two)

-- the next one does not fit, nor do all
pub one_long : (run : List Entry) (at : ℕ) (w0 w : BodyWriter) (out now key values : List ℕ) → at < length run → key ≡ (get_or run at no_entry).0 → values ≡ (get_or run at no_entry).1 → IsPutTo run at w0 out w now
    → ((kinds : List Bool) (start : ℕ) (groups : List Group) (written : List ℕ) (g : Group) → HasTaken kinds start groups written w → g.key ≡ key → values_bytes kinds g.rows g.slots ≡ values → FitInBlocks kinds start (groups ++ g ∷ []) → ⊥)
    → (kinds : List Bool) (start : ℕ) (groups tuples : List Group) (written : List ℕ) → HasTaken kinds start groups written w0 → run ≡ map (entry_of kinds) tuples → FitInBlocks kinds start (groups ++ tuples) → ⊥
one_long run at w0 w out now key values lt key_is values_are put long kinds start groups tuples written has is fit =
    let one = put kinds start groups tuples written has is in
    let at_tuple = there kinds run tuples at lt is in
    let g = get_or tuples at no_group in
    let front = (groups ++ take at tuples) ++ g ∷ [] in
    let later = drop (at + 1) tuples in
    let all : groups ++ tuples ≡ front ++ later =
    ap (λ (ts : List Group). groups ++ ts) (sym (take-append-drop (at + 1) tuples) ∙ ap (λ (ts : List Group). ts ++ later) (take_more tuples at no_group at_tuple.0))
    ∙ sym (append_assoc groups (take at tuples ++ g ∷ []) later) ∙ ap (λ (ts : List Group). ts ++ later) (sym (append_assoc groups (take at tuples) (g ∷ []))) in
    long kinds start (groups ++ take at tuples) (written ++ one.more) g one.taken (sym (key_is ∙ ap (λ (e : Entry). e.0) at_tuple.1)) (sym (values_are ∙ ap (λ (e : Entry). e.1) at_tuple.1))
    (fit_front kinds start front later (subst (FitInBlocks kinds start) all fit))

pub all_put : (run : List Entry) (at : ℕ) (w0 w : BodyWriter) (out now : List ℕ) → length run ≤ at → IsPutTo run at w0 out w now
    → (kinds : List Bool) (start : ℕ) (groups tuples : List Group) (written : List ℕ) → HasTaken kinds start groups written w0 → run ≡ map (entry_of kinds) tuples → Goes kinds start (groups ++ tuples) written out now w
all_put run at w0 w out now end put kinds start groups tuples written has is =
    let all : take at tuples ≡ tuples = take_all at tuples (omega (arith, end, ap (length {A = Entry}) is, length-map tuples (entry_of kinds))) in
    subst (λ (ts : List Group). Goes kinds start (groups ++ ts) written out now w) all (put kinds start groups tuples written has is)

-- ---- the tuples of all runs

-- tuples in two parts, as the entries of a run and others
pub record Split (kinds : List Bool) (run rest : List Entry) (tuples : List Group) : Type 0 where
  pub own : List Group
  pub later : List Group
  pub is : tuples ≡ own ++ later
  pub own_is : run ≡ map (entry_of kinds) own
  pub later_is : rest ≡ map (entry_of kinds) later

split_of : (kinds : List Bool) (run rest : List Entry) (tuples : List Group) → run ++ rest ≡ map (entry_of kinds) tuples → Split kinds run rest tuples
split_of kinds [] rest tuples e = record { own = []; later = tuples; is = refl; own_is = refl; later_is = e }
split_of kinds (x ∷ run) rest [] e = absurd (cc)
split_of kinds (x ∷ run) rest (g ∷ tuples) e =
    let head : x ≡ entry_of kinds g = cc in
    let tail : run ++ rest ≡ map (entry_of kinds) tuples = cc in
    let s = split_of kinds run rest tuples tail in
    record {
      own = g ∷ s.own;
      later = s.later;
      is = ap (λ (gs : List Group). g ∷ gs) s.is;
      own_is = λ i. head i ∷ s.own_is i;
      later_is = s.later_is;
    }

-- within some runs it does not matter what there would be past their end
pub same_within : (runs : List (List Entry)) (at : ℕ) (d e : List Entry) → at < length runs → get_or runs at d ≡ get_or runs at e
same_within [] at d e lt = absurd (omega (arith, lt))
same_within (run ∷ runs) zero d e lt = refl
same_within (run ∷ runs) (suc at) d e lt = same_within runs at d e (omega (arith, lt))

-- those of the runs before this one
abbrev pub ArePutTo : List (List Entry) → ℕ → BodyWriter → List ℕ → BodyWriter → List ℕ → Type 0
ArePutTo runs at w0 out w now = (kinds : List Bool) (start : ℕ) (tuples : List Group) → HasTaken kinds start [] [] w0 → all_entries (take at runs) ≡ map (entry_of kinds) tuples → Goes kinds start tuples [] out now w

pub none_runs : (runs : List (List Entry)) (w : BodyWriter) (out : List ℕ) → ArePutTo runs 0 w out w out
none_runs runs w out kinds start [] has is = goes_none kinds start [] [] out w has
none_runs runs w out kinds start (g ∷ tuples) has is = absurd (cc)

concat_more : (runs : List (List Entry)) (at : ℕ) → at < length runs → all_entries (take (at + 1) runs) ≡ all_entries (take at runs) ++ get_or runs at []
concat_more runs at lt = ap all_entries (take_more runs at [] lt) ∙ flat_map-append (λ (run : List Entry). run) (take at runs) (get_or runs at [] ∷ []) ∙ ap (λ (es : List Entry). all_entries (take at runs) ++ es) (append-nil (get_or runs at []))

pub one_run : (runs : List (List Entry)) (at : ℕ) (run : List Entry) (w0 w v : BodyWriter) (out now next : List ℕ) → at < length runs → run ≡ get_or runs at [] → ArePutTo runs at w0 out w now
    → ((kinds : List Bool) (start : ℕ) (groups tuples : List Group) (written : List ℕ) → HasTaken kinds start groups written w → run ≡ map (entry_of kinds) tuples → Goes kinds start (groups ++ tuples) written now next v)
    → ArePutTo runs (at + 1) w0 out v next
one_run runs at run w0 w v out now next lt run_is put more kinds start tuples has is =
    let s = split_of kinds (all_entries (take at runs)) (get_or runs at []) tuples (sym (concat_more runs at lt) ∙ is) in
    let one = put kinds start s.own has s.own_is in
    let two = more kinds start s.own s.later one.more one.taken (run_is ∙ s.later_is) in
    subst (λ (gs : List Group). Goes kinds start gs [] out next v) (sym s.is) (goes_on kinds start s.own (s.own ++ s.later) [] out now next w v one two)

-- a run does not fit, nor do all
pub run_long : (runs : List (List Entry)) (at : ℕ) (run : List Entry) (w0 w : BodyWriter) (out now : List ℕ) → at < length runs → run ≡ get_or runs at [] → ArePutTo runs at w0 out w now
    → ((kinds : List Bool) (start : ℕ) (groups tuples : List Group) (written : List ℕ) → HasTaken kinds start groups written w → run ≡ map (entry_of kinds) tuples → FitInBlocks kinds start (groups ++ tuples) → ⊥)
    → (kinds : List Bool) (start : ℕ) (tuples : List Group) → HasTaken kinds start [] [] w0 → all_entries runs ≡ map (entry_of kinds) tuples → FitInBlocks kinds start tuples → ⊥
run_long runs at run w0 w out now lt run_is put long kinds start tuples has is fit =
    let parts : all_entries runs ≡ all_entries (take (at + 1) runs) ++ all_entries (drop (at + 1) runs) = ap all_entries (sym (take-append-drop (at + 1) runs)) ∙ flat_map-append (λ (run : List Entry). run) (take (at + 1) runs) (drop (at + 1) runs) in
    let front = split_of kinds (all_entries (take (at + 1) runs)) (all_entries (drop (at + 1) runs)) tuples (sym parts ∙ is) in
    let s = split_of kinds (all_entries (take at runs)) (get_or runs at []) front.own (sym (concat_more runs at lt) ∙ front.own_is) in
    let one = put kinds start s.own has s.own_is in
    long kinds start s.own s.later one.more one.taken (run_is ∙ s.later_is) (subst (FitInBlocks kinds start) s.is (fit_front kinds start front.own front.later (subst (FitInBlocks kinds start) front.is fit)))

pub all_runs : (runs : List (List Entry)) (at : ℕ) (w0 w : BodyWriter) (out now : List ℕ) → length runs ≤ at → ArePutTo runs at w0 out w now
    → (kinds : List Bool) (start : ℕ) (tuples : List Group) → HasTaken kinds start [] [] w0 → all_entries runs ≡ map (entry_of kinds) tuples → Goes kinds start tuples [] out now w
all_runs runs at w0 w out now end put kinds start tuples has is = put kinds start tuples has (ap all_entries (take_all at runs end) ∙ is)
