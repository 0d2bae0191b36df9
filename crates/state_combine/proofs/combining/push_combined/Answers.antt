use Rattle.std.proofs.Common.{◌≡◌, ◌∙◌, ℕ, All, List, Err, ap, subst, sym}
use Rattle.std.specs.List.Sorted.{IsPermutation}
use Rattle.partial_agg.specs.Groups.{GroupsByKey}
use Rattle.partial_agg.specs.Listed.{listed}
use Rattle.partial_agg.specs.declared.groups.Group.{Group as MapGroup}
use Rattle.result_text.specs.Printable.{IsKeyOf}
use Rattle.state_cover.specs.Bytes.{had}
use Rattle.state_head.specs.Head.{subject_of}
use Rattle.state_head.specs.Words.{keys_of}
use Rattle.state_head.specs.declared.cover.Stretch.{Stretch}
use Rattle.state_total.specs.Total.{IsCoverOf}
use Rattle.state_writer.specs.declared.writer.WriteError.TheVariants as variant
use Rattle.state_combine.proofs.Files.{combined_file, keys_beside}
use Rattle.state_combine.specs.Combined.{AreBeside}
use Rattle.state_combine.proofs.combining.push_combined.Goals as goal

pub push_file-requires-clause-keys : goal.push_file-requires-clause-keys
push_file-requires-clause-keys c =
    let count = c.args.shape.now.columns in
    let keys = subst (λ (m : GroupsByKey). All (λ (g : MapGroup). IsKeyOf count g.key) (listed m)) (sym c.into_parts-map.ensures.map) c.requires.keys in
    keys_beside count c.as_slice.result.now c.into_parts-map.result.0 c.groups_beside-groups.result c.groups_beside-groups.ensures keys

pub returns-in-Ok-push_file-clause-file : goal.returns-in-Ok-push_file-clause-file
returns-in-Ok-push_file-clause-file c =
    let got = c.in-Ok-push_file.ensures.file in
    let cover = c.in-Ok.cover.items in
    let all_is = c.into_parts-map.ensures.cover in
    let same = subst (λ (ss : List Stretch). IsPermutation ss c.join_cover.new.stretches.items) all_is c.in-Ok.ensures.same in
    let bytes : (source at : ℕ) → had source at cover ≡ had source at c.args.sum.cover.items = λ source at. c.in-Ok.ensures.bytes source at ∙ ap (had source at) all_is in
    let by_map = subst (λ (m : GroupsByKey). AreBeside c.as_slice.result.now m c.groups_beside-groups.result) c.into_parts-map.ensures.map c.groups_beside-groups.ensures in
    let beside = subst (λ (ss : List Stretch). AreBeside ss c.args.sum.map c.groups_beside-groups.result) c.as_slice.ensures.value by_map in
    let join : IsCoverOf cover c.args.sum.cover.items = record { order = c.join_cover.new.stretches.items; same = same; join = c.in-Ok.ensures.joins } in
    (got.0, combined_file c.args.shape.now (subject_of c.args.whole) (keys_of c.args.range) cover c.args.sum.cover.items c.args.sum.map c.groups_beside-groups.result got.0 join c.in-Ok.ensures.cover bytes c.in-Ok-push_file.ensures.short beside got.1, got.2)

pub returns-clause-long : goal.returns-clause-long
returns-clause-long c = λ e.
    let is : c.in-Err-push_file.why ≡ variant.Long = cc in
    let all_is = c.into_parts-map.ensures.cover in
    let same = subst (λ (ss : List Stretch). IsPermutation ss c.join_cover.new.stretches.items) all_is c.in-Ok.ensures.same in
    let by_map = subst (λ (m : GroupsByKey). AreBeside c.as_slice.result.now m c.groups_beside-groups.result) c.into_parts-map.ensures.map c.groups_beside-groups.ensures in
    record {
      cover = c.in-Ok.cover.items;
      join = record { order = c.join_cover.new.stretches.items; same = same; join = c.in-Ok.ensures.joins };
      groups = c.groups_beside-groups.result;
      beside = subst (λ (ss : List Stretch). AreBeside ss c.args.sum.map c.groups_beside-groups.result) c.as_slice.ensures.value by_map;
      long = c.in-Err-push_file.ensures.long (ap Err is);
    }
