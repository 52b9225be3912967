use Rattle.hermes.proofs.first_texts.reading.Reached.{found_of, alone_of, only_of, stuck_of, place_of, weight_of_read}
use Rattle.hermes.proofs.first.reader.read_first.Goals as goal

pub returns : goal.returns
returns c =
    let strict = c.args.strict in
    let source = c.args.source.now in
    let result = c.read_any.result in
    let reads = c.read_any.ensures in
    record {
      found = found_of strict source result reads;
      alone = alone_of strict source result reads;
      only = λ calls f. only_of strict source result calls reads f;
      stuck = λ at e. stuck_of strict source result at reads e;
      place = λ at y. place_of strict source result at reads y;
      weight = weight_of_read strict source result reads;
    }
