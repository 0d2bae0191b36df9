use Rattle.std.proofs.Common.{string_bytes}
use Rattle.state_partial.proofs.Taken.{refused_rows_of}
use Rattle.state_partial.proofs.reading.refused_part.Goals as goal

pub returns : goal.returns
returns c = λ query from names size.
    let r = c.args.row in
    record {
      header = names.header;
      one = names.one;
      are = record { none = c.none.ensures; first = refused_rows_of query from r.row r.line r.why r.header.items (string_bytes r.said) names };
      size = size;
    }
