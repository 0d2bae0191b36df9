use Rattle.std.proofs.Common.{All, ◌++◌, ◌∷◌, ◌∙◌, Ok, Result, ap, refl, sym, subst, List, ℕ, length, map}
use Rattle.std.proofs.lemmas.Result.{IfOk-weaker}
use Rattle.std.specs.Global.{Vec}
use Rattle.std.specs.List.Sorted.{IsSortedBy}
use Rattle.std.specs.declared.alloc.AllocError.{AllocError}
use Rattle.par_model.specs.Outcome.{IsAnswer}
use Rattle.par_model.specs.Table.{table_text}
use Rattle.result_text.specs.GroupOrder.{is_before, line_of}
use Rattle.result_text.specs.Pieces.{AreParts}
use Rattle.partial_agg.specs.declared.groups.Group.{Group}
use Rattle.result_text.specs.Printable.{IsKeyOf}
use Rattle.result_text.specs.Text.{IsTextOf, Line, line_record, shown}
use Rattle.result_text.specs.Written.{written}
use Rattle.result_text.specs.declared.order.GroupRef.{GroupRef}
use Rattle.result_text.proofs.Answering.{answers}
use Rattle.result_text.proofs.Ranges.{joined-one, joined-parts, shown-all}
use Rattle.result_text.proofs.Whole.{written_text}
use Rattle.result_text.proofs.text_in_threads.Goals as goal

abbrev Part : Type 0
Part = Result (Vec ℕ) AllocError

pub returns-then-columns-eq0-clause-text : goal.returns-then-columns-eq0-clause-text
returns-then-columns-eq0-clause-text g c =
    let text = c.in_ok-text.text in
    IfOk-weaker c.behind.result _ _ (λ pieces e.
    subst (IsTextOf c.args.plan.now.plan c.args.bound.now c.args.groups.now) (sym (joined-one text pieces.items (e ∙ ap (λ (parts : List Part). Ok text ∷ parts) c.new.ensures.items))) c.in_ok-text.ensures.text) c.behind.ensures

pub returns-then-columns-eq0-clause-answer : goal.returns-then-columns-eq0-clause-answer
returns-then-columns-eq0-clause-answer g c =
    let text = c.in_ok-text.text in
    IfOk-weaker c.behind.result _ _ (λ pieces e header rows m bound are listed.
    subst (λ (t : List ℕ). IsAnswer c.args.plan.now.plan (header ∷ rows) t) (sym (joined-one text pieces.items (e ∙ ap (λ (parts : List Part). Ok text ∷ parts) c.new.ensures.items)))
    (c.in_ok-text.ensures.answer header rows m bound are listed)) c.behind.ensures

pub returns-clause-text : goal.returns-clause-text
returns-clause-text g c =
    let plan = c.args.bound.now in
    let groups = c.args.groups.now in
    let refs = c.in_ok-refs.refs.items in
    let count = c.group_count-columns.ensures.count in
    let sorted = subst (λ (n : ℕ). IsSortedBy (is_before n) refs) count c.in_ok-refs.ensures.sorted in
    let parts = subst (λ (rs : List GroupRef). AreParts plan groups rs c.in_ok-parts.parts.items) c.deref.ensures.value c.in_ok-parts.ensures in
    let lines : List Line = map (line_of (length plan.groups) groups) refs in
    let header = written c.write_header.new.self.writer in
    IfOk-weaker c.behind-2.result _ _ (λ pieces e. written_text c.args.plan.now.plan plan groups refs (written c.new-table.result.writer) header (header ++ table_text (map (line_record plan) (shown plan lines))) _
    c.requires.printable c.in_ok-refs.ensures.short c.in_ok-refs.ensures.same sorted c.new-table.ensures.empty c.in_ok-write_header.ensures.text refl
    (joined-parts plan groups refs c.in_ok-header.header c.in_ok-parts.parts.items pieces.items parts e
    ∙ ap (λ (t : List ℕ). t ++ table_text (map (line_record plan) lines)) c.in_ok-header.ensures
    ∙ ap (λ (shown : List Line). header ++ table_text (map (line_record plan) shown)) (sym (shown-all plan lines (λ none. c.if-columns-eq0.false (count ∙ none)))))) c.behind-2.ensures

pub returns-clause-answer : goal.returns-clause-answer
returns-clause-answer g c =
    let plan = c.args.bound.now in
    let few = c.group_count-columns.ensures.items in
    IfOk-weaker c.behind-2.result _ _ (λ pieces is header rows m bound are listed. answers c.args.plan.now.plan plan c.args.groups.now _ header rows m is c.in_ok-refs.ensures.short few bound are listed) (returns-clause-text g c)

pub in_order-requires : goal.in_order-requires
in_order-requires g c =
    let plan = c.args.bound.now in
    let groups = c.args.groups.now in
    let count = c.group_count-columns.ensures.count in
    subst (λ (n : ℕ). All (λ (g : Group). IsKeyOf n g.key) groups) (sym count) c.requires.printable.keys
