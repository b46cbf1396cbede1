use Rattle.std.proofs.Common.{◌∙◌, arith, refl, inr}
use Rattle.bufr_tables.proofs.RecordLemmas.{stripped-count}
use Rattle.bufr_tables.proofs.rows.RecordReader.open.Goals as goal

pub advance-requires : goal.advance-requires
advance-requires c =
    let made = c.from_reader-reader.ensures in
    let set = c.flexible.ensures in
    let named = c.has_headers.ensures in
    let start = c.new.ensures in
    record {
      config = rw (set, named) at made.config ∙ start.config;
      trim = rw (set, named) at made.trim ∙ start.trim;
      ready = inr (inr (rw (set, named) at made.has_headers, made.headers));
      flexible = rw set at made.flexible;
      known = rw made.source refl;
      between = rw made.state refl;
      counted = rw made.source (stripped-count c.args.text.now _ (omega arith));
    }
