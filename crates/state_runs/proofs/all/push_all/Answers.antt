use Rattle.std.proofs.Common.{◌∙◌, All, List, subst, sym}
use Rattle.std.proofs.lemmas.List.Sorted.{All-permutation}
use Rattle.std.proofs.lemmas.Result.{on_ok_weaker}
use Rattle.partial_agg.specs.Listed.{listed}
use Rattle.partial_agg.specs.declared.groups.Group.{Group as MapGroup}
use Rattle.result_text.specs.Printable.{IsKeyOf}
use Rattle.state_head.specs.Head.{preface_of}
use Rattle.state_save.specs.Saving.{AreTuplesOf, IsFileOf}
use Rattle.state_runs.specs.Runs.{groups_in}
use Rattle.state_runs.proofs.Moved.{file_moved, tuples_moved}
use Rattle.state_runs.proofs.Whole.{apart_of, others_same, sole}
use Rattle.state_runs.proofs.all.push_all.Goals as goal

pub push_file-requires-clause-keys : goal.push_file-requires-clause-keys
push_file-requires-clause-keys g c =
    let same = c.into_groups.ensures ∙ sole c.all.inside.maps.items c.in-Ok.map c.args.all c.all.view_is c.in-Ok.ensures.one in
    subst (All (λ (group : MapGroup). IsKeyOf c.args.shape.now.columns group.key)) (sym same) c.requires.keys

pub push_apart_file-requires-clause-keys : goal.push_apart_file-requires-clause-keys
push_apart_file-requires-clause-keys g c κs within =
    let others = c.in-Err.maps.items in
    All-permutation (λ (group : MapGroup). IsKeyOf c.args.shape.now.columns group.key) (listed c.args.all) (groups_in others) (others_same c.all.inside.maps.items others c.args.all c.all.view_is c.all.invariant c.in-Err.ensures.all) c.requires.keys

pub push_apart_file-requires-clause-apart : goal.push_apart_file-requires-clause-apart
push_apart_file-requires-clause-apart g c κs within = apart_of c.all.inside.maps.items c.in-Err.maps.items c.all.invariant c.in-Err.ensures.all

pub returns-in-Ok-clause-file : goal.returns-in-Ok-clause-file
returns-in-Ok-clause-file g c =
    let shape = c.args.shape.now in
    let same = c.into_groups.ensures ∙ sole c.all.inside.maps.items c.in-Ok.map c.args.all c.all.view_is c.in-Ok.ensures.one in
    on_ok_weaker c.push_file-in-Ok.result (λ f. (f.0, subst (λ (gs : List MapGroup). IsFileOf shape (preface_of c.args.head.now) gs f.0) same f.1, f.2)) c.push_file-in-Ok.ensures.file

pub returns-in-Ok-clause-long : goal.returns-in-Ok-clause-long
returns-in-Ok-clause-long g c = λ e few.
    let shape = c.args.shape.now in
    let same = c.into_groups.ensures ∙ sole c.all.inside.maps.items c.in-Ok.map c.args.all c.all.view_is c.in-Ok.ensures.one in
    let none = c.push_file-in-Ok.ensures.long e few in
    (none.0, subst (λ (gs : List MapGroup). AreTuplesOf shape gs none.0) same none.1, none.2)

pub returns-in-Err-clause-file : goal.returns-in-Err-clause-file
returns-in-Err-clause-file g c =
    let shape = c.args.shape.now in
    let others = c.in-Err.maps.items in
    let same = others_same c.all.inside.maps.items others c.args.all c.all.view_is c.all.invariant c.in-Err.ensures.all in
    on_ok_weaker c.push_apart_file.result (λ f. (f.0, file_moved shape (preface_of c.args.head.now) (groups_in others) (listed c.args.all) f.0 same f.1, f.2)) c.push_apart_file.ensures.file

pub returns-in-Err-clause-long : goal.returns-in-Err-clause-long
returns-in-Err-clause-long g c = λ e few.
    let shape = c.args.shape.now in
    let others = c.in-Err.maps.items in
    let same = others_same c.all.inside.maps.items others c.args.all c.all.view_is c.all.invariant c.in-Err.ensures.all in
    let none = c.push_apart_file.ensures.long e few in
    (none.0, tuples_moved shape (groups_in others) (listed c.args.all) none.0 same none.1, none.2)
