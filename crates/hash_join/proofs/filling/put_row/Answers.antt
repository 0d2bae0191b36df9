use Rattle.std.proofs.Common.{◌≡◌, ◌++◌, ◌∷◌, [], ℕ, List, true, false, ap, sym, subst, ◌∙◌}
use Rattle.csv_rows.specs.Records.{field_of}
use Rattle.dsa_area.specs.Shown.{pages_mine}
use Rattle.dshash_parts.specs.Promises.{CallMade}
use Rattle.dshash_parts.specs.Tables.{item_of}
use Rattle.dshash_parts.specs.Traces.{sight_of}
use Rattle.dshash_parts.specs.Within.{CallEnded}
use Rattle.lock_book.specs.Shown.{mine_of, number_of}
use Rattle.par_model.specs.Record.{is_null}
use Rattle.join_pairs.specs.Chains.{last_step}
use Rattle.hash_join.specs.Filled.{HasPut, key_of, longest_chain}
use Rattle.hash_join.proofs.Ended.{put_ended}
use Rattle.hash_join.proofs.Putting.{put_empty, put_made}
use Rattle.hash_join.proofs.Fits.{key_is}
use Rattle.hash_join.proofs.filling.put_row.Goals as goal

pub returns-then-is_empty-clause-put : goal.returns-then-is_empty-clause-put
returns-then-is_empty-clause-put g c =
    let f = c.args.filler.now in
    let none : is_null (field_of c.args.rows.now c.args.row c.args.column) ≡ true = ap is_null (sym c.field-field.ensures) ∙ sym c.is_empty.ensures ∙ c.if-is_empty.true in
    λ list h. put_empty c.args.rows.now c.args.column c.args.row list (mine_of f.table) (pages_mine f.area) f.links.items f.spilled.items none h

-- the call was made, and the row was noted
pub returns-in-Ok-push-clause-put : goal.returns-in-Ok-push-clause-put
returns-in-Ok-push-clause-put g c =
    let f = c.args.filler.now in
    let s = c.args.store.now in
    let some : is_null (field_of c.args.rows.now c.args.row c.args.column) ≡ false = ap is_null (sym c.field-field.ensures) ∙ sym c.is_empty.ensures ∙ c.if-is_empty.false in
    let key : c.cut_key-key.result.now ≡ key_of c.args.rows.now c.args.column c.args.row = key_is c.args.rows.now c.args.column c.args.row s.key_words c.pack_words-packed.result c.cut_key-key.result.now c.field-field.result.now c.requires.words c.pack_words-packed.ensures c.field-field.ensures c.cut_key-key.ensures in
    let made = subst (λ (k : List ℕ). CallMade last_step s.table s.area f.table f.area c.call_within-put.new.pass c.call_within-put.new.apass k c.args.row c.in-Ok.before) key c.in-Ok.ensures.made in
    λ list h.
    subst (λ (ls : _). HasPut c.args.rows.now c.args.column (list ++ c.args.row ∷ []) (mine_of c.call_within-put.new.pass) (pages_mine c.call_within-put.new.apass) ls f.spilled.items) (sym c.in-Ok-push.ensures.items)
    (put_made c.args.rows.now c.args.column c.args.row s.area (number_of f.table) (sight_of f.table f.area) (sight_of c.call_within-put.new.pass c.call_within-put.new.apass) made.0 made.2 list f.links.items f.spilled.items some h (item_of s.table) c.in-Ok.before made.1)

-- the call was not made, and the row was kept
pub returns-in-Ok-push-2-clause-put : goal.returns-in-Ok-push-2-clause-put
returns-in-Ok-push-2-clause-put g c =
    let f = c.args.filler.now in
    let s = c.args.store.now in
    let some : is_null (field_of c.args.rows.now c.args.row c.args.column) ≡ false = ap is_null (sym c.field-field.ensures) ∙ sym c.is_empty.ensures ∙ c.if-is_empty.false in
    let key : c.cut_key-key.result.now ≡ key_of c.args.rows.now c.args.column c.args.row = key_is c.args.rows.now c.args.column c.args.row s.key_words c.pack_words-packed.result c.cut_key-key.result.now c.field-field.result.now c.requires.words c.pack_words-packed.ensures c.field-field.ensures c.cut_key-key.ensures in
    let ended = subst (λ (k : List ℕ). CallEnded last_step s.table s.area f.table f.area c.call_within-put.new.pass c.call_within-put.new.apass k c.args.row longest_chain c.in-Err.field-0) key c.in-Err.ensures.refused in
    λ list h.
    subst (λ (ss : List ℕ). HasPut c.args.rows.now c.args.column (list ++ c.args.row ∷ []) (mine_of c.call_within-put.new.pass) (pages_mine c.call_within-put.new.apass) f.links.items ss) (sym c.in-Ok-push-2.ensures.items)
    (put_ended c.args.rows.now c.args.column c.args.row s.table s.area f.table f.area c.call_within-put.new.pass c.call_within-put.new.apass list f.links.items f.spilled.items some h c.in-Err.field-0 ended)
