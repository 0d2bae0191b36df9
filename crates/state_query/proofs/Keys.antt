-- The keys of the groups of files are encodings of as many columns as the plan groups by, and their stretches are of
-- their sources.
use Rattle.std.proofs.Common.{◌≡◌, ◌∙◌, ℕ, Bool, true, false, List, [], ◌∷◌, All, None, Option, Some, cond, get_or, refl, subst, sym}
use Rattle.std.specs.Cmp.Lexicographic.{nat_list_cmp_total}
use Rattle.std.specs.FinMap as map
use Rattle.std.specs.Ordering.{eq_by_cmp}
use Rattle.std.proofs.lemmas.List.Elements.{All-append, All-cons, All-head, All-map, All-nil, All-tail}
use Rattle.par_model.specs.declared.state.AggState.{AggState}
use Rattle.partial_agg.specs.Groups.{GroupsByKey, added, joined, key_cmp}
use Rattle.partial_agg.specs.Listed.{group, listed}
use Rattle.partial_agg.specs.declared.groups.Group.{Group as MapGroup}
use Rattle.partial_agg.proofs.Entries.{All-found}
use Rattle.partial_agg.proofs.Joining.{equal}
use Rattle.result_text.specs.Printable.{IsKeyOf}
use Rattle.state_blocks.specs.Blocks.{Group, IsBlock}
use Rattle.state_body.specs.Body.{groups_of}
use Rattle.state_groups.specs.Group.{IsKey}
use Rattle.state_head.specs.Cover.{AreStretches, IsStretch}
use Rattle.state_head.specs.Head.{Subject}
use Rattle.state_head.specs.Words.{Keys}
use Rattle.state_head.specs.declared.cover.Place.{Place}
use Rattle.state_head.specs.declared.cover.Stretch.{Stretch}
use Rattle.state_load.specs.Loading.{AreParts, IsPart, stretches_of, sum_of}
use Rattle.state_whole.specs.Adding.{state_of, sum_with, with_group}
use Rattle.state_whole.specs.Files.{StateFile, tuples_in}
use Rattle.state_whole.specs.declared.adding.Shape.{Shape}

-- each key of a map is the encoding of this many columns
HaveKeys : ℕ → GroupsByKey → Type 0
HaveKeys count m = (key : List ℕ) (state : AggState) → map.get m key ≡ Some state → IsKeyOf count key

keys_none : (count : ℕ) → HaveKeys count map.empty
unfolding HaveKeys
keys_none count key state is = let no : None ≡ Some state = sym (map.get-empty key_cmp key) ∙ is in absurd cc

keys_added : (count : ℕ) (m : GroupsByKey) (key : List ℕ) (state : AggState) → IsKeyOf count key → HaveKeys count m → HaveKeys count (added m key state)
unfolding HaveKeys
keys_added count m key state here before q v is = by (eq_by_cmp key_cmp q key) refl (sym (map.get-insert nat_list_cmp_total m key (joined (map.get m key) state) q) ∙ is)
  where
    by : (b : Bool) → eq_by_cmp key_cmp q key ≡ b → cond b (Some (joined (map.get m key) state)) (map.get m q) ≡ Some v → IsKeyOf count q
    by false ties e = before q v e
    by true ties e =
        let same : q ≡ key = map.slice_cmp-IsAntisymmetric map.nat_cmp-IsAntisymmetric q key (equal (key_cmp q key) ties) in
        subst (IsKeyOf count) (sym same) here

keys_listed : (count : ℕ) (m : GroupsByKey) → HaveKeys count m → All (λ (g : MapGroup). IsKeyOf count g.key) (listed m)
unfolding HaveKeys
keys_listed count m have =
    All-map (λ (g : MapGroup). IsKeyOf count g.key) group (map.entries m) (λ k d lt. have (get_or (map.entries m) k d).0 (get_or (map.entries m) k d).1 (All-found m k d lt))

-- ---- the groups of a file

HasKey : ℕ → Group → Type 0
HasKey count g = IsKeyOf count g.key

key_of_tuple : (count : ℕ) (g : Group) → IsKey count g.key → HasKey count g
unfolding HasKey
key_of_tuple count g is = record { columns = is.fields; many = is.many; is = is.is }

key_at : (count : ℕ) (g : Group) (groups : List Group) → All (HasKey count) (g ∷ groups) → IsKeyOf count g.key
unfolding HasKey
key_at count g groups keys = All-head (HasKey count) g groups keys

keys_sum : (shape : Shape) (count : ℕ) (groups : List Group) (m : GroupsByKey) → All (HasKey count) groups → HaveKeys count m → HaveKeys count (sum_with shape m groups)
keys_sum shape count [] m keys have = have
keys_sum shape count (g ∷ groups) m keys have =
    keys_sum shape count groups (with_group shape m g) (All-tail (HasKey count) g groups keys) (keys_added count m g.key (state_of shape g) (key_at count g groups keys) have)

keys_block : (columns : ℕ) (kinds : List Bool) (block : List Group) → IsBlock columns kinds block → All (HasKey columns) block
keys_block columns kinds block is = λ k d lt. key_of_tuple columns (get_or block k d) (is.each k d lt).is_key

keys_blocks : (columns : ℕ) (kinds : List Bool) (blocks : List (List Group)) → All (IsBlock columns kinds) blocks → All (HasKey columns) (groups_of blocks)
keys_blocks columns kinds [] all = All-nil (HasKey columns)
keys_blocks columns kinds (b ∷ blocks) all =
    All-append (HasKey columns) b (groups_of blocks) (keys_block columns kinds b (All-head (IsBlock columns kinds) b blocks all)) (keys_blocks columns kinds blocks (All-tail (IsBlock columns kinds) b blocks all))

keys_files : (shape : Shape) (subject : Subject) (keys : Keys) (files : List StateFile) (m : GroupsByKey) → AreParts shape subject keys files → HaveKeys shape.columns m → HaveKeys shape.columns (sum_of shape m files)
keys_files shape subject keys [] m all have = have
keys_files shape subject keys (f ∷ files) m all have =
    let here = All-head (IsPart shape subject keys) f files all in
    keys_files shape subject keys files (sum_with shape m (tuples_in f)) (All-tail (IsPart shape subject keys) f files all)
    (keys_sum shape shape.columns (tuples_in f) m (keys_blocks shape.columns shape.kinds.now f.blocks here.is_file.are_groups.is_body.each) have)

-- the keys of the sum of files
pub keys_of_sum : (shape : Shape) (subject : Subject) (keys : Keys) (files : List StateFile) → AreParts shape subject keys files → All (λ (g : MapGroup). IsKeyOf shape.columns g.key) (listed (sum_of shape map.empty files))
keys_of_sum shape subject keys files all = keys_listed shape.columns (sum_of shape map.empty files) (keys_files shape subject keys files map.empty all (keys_none shape.columns))

-- ---- their stretches

each_stretch : (sources : ℕ) (before : Option Place) (cover : List Stretch) → AreStretches sources before cover → All (IsStretch sources) cover
each_stretch sources before [] are = All-nil (IsStretch sources)
each_stretch sources before (s ∷ cover) are = All-cons (IsStretch sources) s cover are.0.is_stretch (each_stretch sources (Some s.place) cover are.1)

pub stretches_of_sum : (shape : Shape) (subject : Subject) (keys : Keys) (files : List StateFile) → AreParts shape subject keys files → All (IsStretch subject.sources) (stretches_of files)
stretches_of_sum shape subject keys [] all = All-nil (IsStretch subject.sources)
stretches_of_sum shape subject keys (f ∷ files) all =
    let here = All-head (IsPart shape subject keys) f files all in
    let cover = each_stretch f.preface.subject.sources None f.preface.cover here.is_file.is_front.is_head.is_cover.stretches in
    All-append (IsStretch subject.sources) f.preface.cover (stretches_of files) (subst (λ (s : Subject). All (IsStretch s.sources) f.preface.cover) here.is_alike.subject_is cover) (stretches_of_sum shape subject keys files (All-tail (IsPart shape subject keys) f files all))
