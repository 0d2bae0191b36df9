-- The file of the sum of several files.
use Rattle.std.proofs.Common.{◌≡◌, ◌≤◌, ◌^◌, ◌++◌, ◌∙◌, arith, inl, inr, ℕ, List, [], ◌∷◌, All, ap, length, map, subst, sym}
use Rattle.std.proofs.lemmas.List.{nil_from_length}
use Rattle.std.proofs.lemmas.List.Elements.{All-head, All-nil, All-tail}
use Rattle.std.proofs.lemmas.List.Sorted.{length_permutation}
use Rattle.std.specs.FinMap as finite
use Rattle.par_model.specs.declared.state.AggState.{AggState}
use Rattle.partial_agg.specs.Groups.{GroupsByKey, key_cmp}
use Rattle.partial_agg.specs.Listed.{group, listed}
use Rattle.partial_agg.specs.declared.groups.Group.{Group as MapGroup}
use Rattle.result_text.specs.Printable.{IsKeyOf}
use Rattle.state_body.specs.Body.{IsBody}
use Rattle.state_cover.specs.Bytes.{had}
use Rattle.state_front.specs.Front.{front_bytes}
use Rattle.state_head.specs.Cover.{IsCover}
use Rattle.state_head.specs.Head.{Preface, Subject, head_bytes}
use Rattle.state_head.specs.Words.{Keys}
use Rattle.state_head.specs.declared.cover.RefusedRow.{RefusedRow}
use Rattle.state_head.specs.declared.cover.Rows.TheVariants.{Refused}
use Rattle.state_head.specs.declared.cover.Stretch.{Stretch}
use Rattle.state_save.specs.Saving.{AreTuplesOf, IsFileOf, IsTold, tuple_of}
use Rattle.state_total.specs.Total.{AreCounted, IsCounted, IsCoverOf, IsFirstRefused}
use Rattle.state_total.specs.declared.total.FirstRefused.{FirstRefused}
use Rattle.state_whole.specs.Files.{StateFile, tuples_in}
use Rattle.state_whole.specs.declared.adding.Shape.{Shape}
use Rattle.state_combine.specs.Combined.{AreBeside, IsCombined, made_of}

-- a map without groups
pub no_groups : listed finite.empty ≡ []
no_groups = ap (λ (es : List (List ℕ × AggState)). map group es) (nil_from_length (finite.entries finite.empty) (sym (finite.len-entries finite.empty) ∙ finite.len-empty key_cmp AggState))

-- a cover with a refused row
not_counted : (front rest : List Stretch) (s : Stretch) (why : RefusedRow) → s.rows ≡ Refused why → All IsCounted (front ++ s ∷ rest) → ⊥
not_counted [] rest s why refused all = subst AreCounted refused (All-head IsCounted s rest all)
not_counted (f ∷ front) rest s why refused all = not_counted front rest s why refused (All-tail IsCounted f (front ++ s ∷ rest) all)

pub is_refused : (cover : List Stretch) (found : FirstRefused) → IsFirstRefused cover found → All IsCounted cover → ⊥
is_refused cover found is all = not_counted is.front is.rest is.s found.why is.refused (subst (All IsCounted) is.is all)

-- the keys of the groups beside a cover
pub keys_beside : (count : ℕ) (cover : List Stretch) (m : GroupsByKey) (groups : List MapGroup) → AreBeside cover m groups → All (λ (g : MapGroup). IsKeyOf count g.key) (listed m) → All (λ (g : MapGroup). IsKeyOf count g.key) groups
keys_beside count cover m groups (inl is) keys = subst (All (λ (g : MapGroup). IsKeyOf count g.key)) (sym is.1) keys
keys_beside count cover m groups (inr is) keys = subst (All (λ (g : MapGroup). IsKeyOf count g.key)) (sym is.1) (All-nil (λ (g : MapGroup). IsKeyOf count g.key))

-- no groups have no tuples
no_tuples : (shape : Shape) (f : StateFile) → AreTuplesOf shape [] (tuples_in f) → tuples_in f ≡ []
no_tuples shape f are = nil_from_length (tuples_in f) (length_permutation (map (tuple_of shape) []) (tuples_in f) are.same)

tuples_counted : (shape : Shape) (cover : List Stretch) (m : GroupsByKey) (groups : List MapGroup) (f : StateFile) → AreBeside cover m groups → AreTuplesOf shape groups (tuples_in f) → All IsCounted cover → AreTuplesOf shape (listed m) (tuples_in f)
tuples_counted shape cover m groups f (inl is) are counted = subst (λ (gs : List MapGroup). AreTuplesOf shape gs (tuples_in f)) is.1 are
tuples_counted shape cover m groups f (inr is) are counted = absurd (is.0 counted)

tuples_refused : (shape : Shape) (cover : List Stretch) (m : GroupsByKey) (groups : List MapGroup) (f : StateFile) → AreBeside cover m groups → AreTuplesOf shape groups (tuples_in f) → (All IsCounted cover → ⊥) → tuples_in f ≡ []
tuples_refused shape cover m groups f (inl is) are refused = absurd (refused is.0)
tuples_refused shape cover m groups f (inr is) are refused = no_tuples shape f (subst (λ (gs : List MapGroup). AreTuplesOf shape gs (tuples_in f)) is.1 are)

all_told : (shape : Shape) (cover : List Stretch) (m : GroupsByKey) (groups : List MapGroup) → AreBeside cover m groups → All (IsTold shape) (listed m) → All (IsTold shape) groups
all_told shape cover m groups (inl is) told = subst (All (IsTold shape)) (sym is.1) told
all_told shape cover m groups (inr is) told = subst (All (IsTold shape)) (sym is.1) (All-nil (IsTold shape))

-- the file of a head and of the groups beside its cover
pub combined_file : (shape : Shape) (subject : Subject) (keys : Keys) (cover stretches : List Stretch) (m : GroupsByKey) (groups : List MapGroup) (f : StateFile) → IsCoverOf cover stretches → IsCover subject.sources cover → ((source at : ℕ) → had source at cover ≡ had source at stretches)
    → length (head_bytes (made_of subject keys cover)) ≤ 2 ^ 28 → AreBeside cover m groups → IsFileOf shape (made_of subject keys cover) groups f → IsCombined shape subject keys m stretches f
combined_file shape subject keys cover stretches m groups f join is_cover bytes short beside is =
    let cover_is : f.preface.cover ≡ cover = ap (λ (p : Preface). p.cover) is.preface_is in
    let head_is = ap (λ (p : Preface). length (head_bytes p)) is.preface_is in
    record {
      subject_is = ap (λ (p : Preface). p.subject) is.preface_is;
      keys_are = ap (λ (p : Preface). p.keys) is.preface_is;
      join = subst (λ (ss : List Stretch). IsCoverOf ss stretches) (sym cover_is) join;
      is_cover = subst (IsCover subject.sources) (sym cover_is) is_cover;
      short = omega (arith, head_is, short);
      bytes = λ source at. ap (had source at) cover_is ∙ bytes source at;
      counted = λ counted. tuples_counted shape cover m groups f beside is.are (subst (All IsCounted) cover_is counted);
      refused = λ refused. tuples_refused shape cover m groups f beside is.are (λ all. refused (subst (All IsCounted) (sym cover_is) all));
      is_body = λ told. subst (λ (p : Preface). IsBody shape.columns shape.kinds.now (length (front_bytes p)) f.blocks) (sym is.preface_is) (is.is_body (all_told shape cover m groups beside told));
    }
