-- The lines of a range, run by run, and their text.
use Rattle.std.proofs.Common.{◌≡◌, ◌<◌, ◌≤◌, ◌+◌, ◌-◌, ◌++◌, ◌∷◌, ◌∙◌, [], ℕ, List, ap, append-nil, append_assoc, arith, drop, get_or, length, map, sym, take}
use Rattle.std.proofs.lemmas.List.{get_or-drop, length-drop, map-append, take_more}
use Rattle.std.proofs.lemmas.List.Concat.{flat_map-append}
use Rattle.std.proofs.lemmas.List.Folds.{concat-append}
use Rattle.std.specs.List.{concat, flat_map}
use Rattle.line_runs.specs.Entries.{Entry, no_entry}
use Rattle.line_runs.specs.Order.{entry_at}
use Rattle.line_runs.specs.declared.order.LineRef.{LineRef}

-- one line more of a stretch
pub stretch_more : (runs : List (List Entry)) (run from at to : ℕ) (before now : List LineRef) (line : LineRef) (news : List LineRef) → from ≤ at → at < to → to ≤ length (get_or runs run []) → line.run ≡ run → line.at ≡ at → news ≡ now ++ line ∷ []
    → map (entry_at runs) now ≡ map (entry_at runs) before ++ take (at - from) (drop from (get_or runs run [])) → map (entry_at runs) news ≡ map (entry_at runs) before ++ take (at + 1 - from) (drop from (get_or runs run []))
stretch_more runs run from at to before now line news up lt within is_run is_at grown is =
    let own = get_or runs run [] in
    let rest = drop from own in
    let n : ℕ = at - from in
    let there : n < length rest = omega (arith, up, lt, within, length-drop from own) in
    let place : from + n ≡ at = omega (arith, up) in
    let entry : entry_at runs line ≡ get_or rest n no_entry = (λ i. get_or (get_or runs (is_run i) []) (is_at i) no_entry) ∙ sym (get_or-drop from own n no_entry ∙ ap (λ (k : ℕ). get_or own k no_entry) place) in
    let longer : at + 1 - from ≡ n + 1 = omega (arith, up) in
    ap (map (entry_at runs)) grown ∙ map-append (entry_at runs) now (line ∷ [])
    ∙ (λ i. is i ++ entry i ∷ [])
    ∙ append_assoc (map (entry_at runs) before) (take n rest) (get_or rest n no_entry ∷ [])
    ∙ ap (λ (l : List Entry). map (entry_at runs) before ++ l) (sym (take_more rest n no_entry there) ∙ ap (λ (k : ℕ). take k rest) (sym longer))

-- the stretch of one run more
pub runs_more : (f : List Entry → List Entry) (runs : List (List Entry)) (at : ℕ) (d : List Entry) (so_far : List Entry) → at < length runs → so_far ≡ flat_map f (take at runs) → so_far ++ f (get_or runs at d) ≡ flat_map f (take (at + 1) runs)
runs_more f runs at d so_far lt is =
    ap (λ (l : List Entry). l ++ f (get_or runs at d)) is ∙ sym (ap (flat_map f) (take_more runs at d lt) ∙ flat_map-append f (take at runs) (get_or runs at d ∷ []) ∙ ap (λ (l : List Entry). flat_map f (take at runs) ++ l) (append-nil (f (get_or runs at d))))

-- the line of one entry more
pub text_more : (runs : List (List Entry)) (lines : List LineRef) (at : ℕ) (d : LineRef) (old new : List ℕ) → at < length lines → old ≡ concat (map (λ (e : Entry). e.1) (map (entry_at runs) (take at lines))) → new ≡ old ++ (entry_at runs (get_or lines at d)).1
    → new ≡ concat (map (λ (e : Entry). e.1) (map (entry_at runs) (take (at + 1) lines)))
text_more runs lines at d old new lt is grown =
    let texts : List LineRef → List (List ℕ) = λ ls. map (λ (e : Entry). e.1) (map (entry_at runs) ls) in
    let own = get_or lines at d in
    let parts : texts (take (at + 1) lines) ≡ texts (take at lines) ++ (entry_at runs own).1 ∷ [] =
    ap texts (take_more lines at d lt) ∙ ap (map (λ (e : Entry). e.1)) (map-append (entry_at runs) (take at lines) (own ∷ [])) ∙ map-append (λ (e : Entry). e.1) (map (entry_at runs) (take at lines)) (entry_at runs own ∷ []) in
    grown ∙ ap (λ (t : List ℕ). t ++ (entry_at runs own).1) is
    ∙ ap (λ (t : List ℕ). concat (texts (take at lines)) ++ t) (sym (append-nil (entry_at runs own).1))
    ∙ sym (ap concat parts ∙ concat-append (texts (take at lines)) ((entry_at runs own).1 ∷ []))

-- one line more of a run of lines
pub run_more : (runs : List (List Entry)) (lines : List LineRef) (at : ℕ) (d : LineRef) (run new : List Entry) (entry : Entry) → at < length lines → run ≡ map (entry_at runs) (take at lines) → new ≡ run ++ entry ∷ [] → entry ≡ entry_at runs (get_or lines at d)
    → new ≡ map (entry_at runs) (take (at + 1) lines)
run_more runs lines at d run new entry lt is grown same =
    grown ∙ (λ i. is i ++ same i ∷ []) ∙ sym (ap (map (entry_at runs)) (take_more lines at d lt) ∙ map-append (entry_at runs) (take at lines) (get_or lines at d ∷ []))
