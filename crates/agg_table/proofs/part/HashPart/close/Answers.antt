use Rattle.std.proofs.Common.{◌∙◌, length, ap, sym, subst}
use Rattle.std.proofs.lemmas.List.{length-map}
use lib.ListN.{get_elem?}
use Rattle.lock_book.proofs.Uses.{at_map, map_at}
use Rattle.lock_book.specs.Shown.{number_of}
use Rattle.agg_table.specs.declared.part.HashSeat.{HashSeat}
use Rattle.agg_table.proofs.part.HashPart.close.Goals as goal

pub close-requires-clause-all : goal.close-requires-clause-all
close-requires-clause-all c κs =
    let seats = c.args.seats.items in
    let are = c.requires.seats in
    let tables = c.take_apart-tables.ensures.tables in
    record {
      count = ap length tables ∙ length-map seats (λ (s : HashSeat). s.table) ∙ are.count;
      each = λ k p e.
          let x = map_at (λ (s : HashSeat). s.table) seats k p (ap (λ l. get_elem? l k) (sym tables) ∙ e) in
          subst (λ p. Rattle.dshash_parts.specs.Tables.Belongs c.args.self.table p) x.2 (are.each k x.0 x.1).table;
      numbers = λ k p e.
          let x = map_at (λ (s : HashSeat). s.table) seats k p (ap (λ l. get_elem? l k) (sym tables) ∙ e) in
          ap (λ p. number_of p) (sym x.2) ∙ are.numbers k x.0 x.1;
    }

pub returns-clause-closed : goal.returns-clause-closed
returns-clause-closed c =
    let seats = c.args.seats.items in
    let tables = c.take_apart-tables.ensures.tables in
    let e = c.close.ensures.ended in
    record {
      lawful = e.lawful;
      begins = λ n i s h. e.begins n i s.table (ap (λ l. get_elem? l n) tables ∙ at_map (λ (s : HashSeat). s.table) seats n s h);
      mine = λ n i s h. e.mine n i s.table (ap (λ l. get_elem? l n) tables ∙ at_map (λ (s : HashSeat). s.table) seats n s h);
      no_others = e.no_others;
    }

pub returns-clause-parts : goal.returns-clause-parts
returns-clause-parts c = λ region part. c.close.ensures.parts region part.table
