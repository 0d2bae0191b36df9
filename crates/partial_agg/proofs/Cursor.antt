-- Going through rows that are given one after another.
use Rattle.std.proofs.Common.{Result, Ok, Err, IfErr, ◌≡◌, ◌<◌, ◌+◌, ◌++◌, ◌∙◌, ℕ, None, Some, All, List, [], ◌∷◌, ap, arith, drop, get_or, length, length-drop, subst, sym, take}
use Rattle.std.proofs.lemmas.List.{drop_more, get_or-drop, take_all, take_more}
use Rattle.std.proofs.lemmas.List.Elements.{All-push}
use Rattle.par_model.specs.Plan.{Plan}
use Rattle.par_model.specs.Refuse.{refusal}
use Rattle.partial_agg.specs.Blocks.{ExplainsRow}
use Rattle.partial_agg.specs.Cursor.{AddedSome, SomeRefused}
use Rattle.partial_agg.specs.Groups.{GroupsByKey, with_rows}
use Rattle.partial_agg.specs.Rows.{IsAccepted}
use Rattle.partial_agg.specs.declared.map.BlockAnswer.{BlockAnswer}
use Rattle.partial_agg.specs.declared.map.BlockAnswer.TheVariants as answer
use Rattle.partial_agg.proofs.Blocks.{with_rows-append}
use Rattle.row_blocks.specs.Blocks.{Table}

-- an answer on the rows that are left is one on all of them
pub some_refused : (plan : Plan) (width : ℕ) (all left : Table) (count : ℕ) (why : BlockAnswer) → left ≡ drop count all → SomeRefused plan width left why → SomeRefused plan width all why
some_refused plan width all left count (answer.Row row cause item) is h =
    λ accepted.
    let rest : All (IsAccepted plan width) (drop count all) = λ k d lt. subst (λ (r : List (List ℕ)). IsAccepted plan width r) (sym (get_or-drop count all k d)) (accepted (count + k) d (omega (arith, lt, length-drop count all))) in
    h (subst (λ (l : Table). All (IsAccepted plan width) l) (sym is) rest)
some_refused plan width all left count answer.Memory is h = tt

pub rest_refused : {T : Type 0} (r : Result T BlockAnswer) (plan : Plan) (width : ℕ) (left : Table) (count : ℕ) → IfErr r (λ why. (plan : Plan) → SomeRefused plan width left why)
    → IfErr r (λ why. (all : Table) → left ≡ drop count all → SomeRefused plan width all why)
rest_refused (Ok x) plan width left count h = h
rest_refused (Err why) plan width left count h = λ all is. some_refused plan width all left count why is (h plan)

-- so is one that says why the first of them is refused
pub first_refused : (plan : Plan) (width : ℕ) (row : List (List ℕ)) (rest : Table) (at : ℕ) (why : BlockAnswer) → ExplainsRow plan width row at why → SomeRefused plan width (row ∷ rest) why
first_refused plan width row rest at (answer.Row number cause item) h = λ accepted.
    let fine : refusal plan width row ≡ None = accepted 0 [] (omega arith) in
    let both : None ≡ Some (record { cause = cause; item = item }) = sym fine ∙ h.1 in
    cc both
first_refused plan width row rest at answer.Memory h = tt

-- a row comes
pub some_next : (plan : Plan) (width : ℕ) (all left rest : Table) (row : List (List ℕ)) (count : ℕ) (start groups : GroupsByKey) → left ≡ row ∷ rest → AddedSome plan width all count left start groups → AddedSome plan width all count (row ∷ rest) start groups
some_next plan width all left rest row count start groups is so_far = subst (λ (l : Table). AddedSome plan width all count l start groups) is so_far

pub rest_next : (all rest : Table) (row : List (List ℕ)) (count : ℕ) → row ∷ rest ≡ drop count all → rest ≡ drop (count + 1) all
rest_next all rest row count is =
    let there : count < length all = omega (arith, ap (length {A = List (List ℕ)}) is, length-drop count all) in
    ap (λ (l : Table). drop 1 l) (is ∙ drop_more all count [] there)

-- and is added
pub some_more : (plan : Plan) (width : ℕ) (all rest : Table) (row : List (List ℕ)) (count : ℕ) (start mid new : GroupsByKey) → AddedSome plan width all count (row ∷ rest) start mid
    → IsAccepted plan width row → new ≡ with_rows plan mid (row ∷ []) → AddedSome plan width all (count + 1) rest start new
some_more plan width all rest row count start mid new so_far accepted now =
    let there : count < length all = omega (arith, ap (length {A = List (List ℕ)}) so_far.rest, length-drop count all) in
    let parts : row ∷ rest ≡ get_or all count [] ∷ drop (count + 1) all = so_far.rest ∙ drop_more all count [] there in
    let is : row ≡ get_or all count [] = ap (λ (l : Table). get_or l 0 []) parts in
    let front : take (count + 1) all ≡ take count all ++ row ∷ [] = take_more all count [] there ∙ ap (λ (r : List (List ℕ)). take count all ++ r ∷ []) (sym is) in
    record {
      within = omega (arith, there);
      rest = ap (λ (l : Table). drop 1 l) parts;
      accepted = subst (λ (l : Table). All (IsAccepted plan width) l) (sym front) (All-push (IsAccepted plan width) (take count all) row so_far.accepted accepted);
      added = now ∙ ap (λ (g : GroupsByKey). with_rows plan g (row ∷ [])) so_far.added ∙ sym (with_rows-append plan start (take count all) (row ∷ [])) ∙ ap (with_rows plan start) (sym front);
    }

-- none is left
pub some_all : (all : Table) (count : ℕ) → [] ≡ drop count all → take count all ≡ all
some_all all count is = take_all count all (omega (arith, ap (length {A = List (List ℕ)}) is, length-drop count all))
