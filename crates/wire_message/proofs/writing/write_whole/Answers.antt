use Rattle.std.proofs.Common.{arith, ◌∙◌, ap, ◌≡◌, ◌*◌, ◌++◌, length, drop, ℕ, List}
use Rattle.std.specs.List.{flat_map}
use Rattle.wire_message.specs.Content.{header, spelling, word}
use Rattle.wire_message.specs.Reading.{outgoing_message}
use Rattle.wire_message.proofs.Words.{length-words}
use Rattle.wire_message.proofs.Laws.{length-spelling, length-header, version_small}
use Rattle.wire_message.proofs.Ranges.{is_message}
use Rattle.wire_message.proofs.Placed.{placed, ThreeWrites, all_written}
use Rattle.wire_message.proofs.writing.write_whole.Goals as goal

pub header_of-requires-clause-version : goal.header_of-requires-clause-version
header_of-requires-clause-version c = version_small c.args.parts.now.version c.requires.message.version

pub returns : goal.returns
unfolding spelling
returns c =
    let message = outgoing_message c.args.parts.now in
    let old = c.args.buf.now in
    let forty : length c.header_of.result ≡ 40 = ap length c.header_of.ensures.value ∙ length-header message in
    let n = 4 * length message.args in
    let writes : ThreeWrites old (header message) (flat_map word message.args) message.payload n = record {
      first = c.write_at.new.buf;
      second = c.write_arguments.new.buf;
      third = c.write_at-2.new.buf;
      forty = length-header message;
      many = length-words message.args;
      fits = omega (arith, c.requires.room);
      one =
          c.write_at.ensures
          ∙ ap (λ (k : ℕ). placed old 0 c.header_of.result k) forty
          ∙ ap (λ (bytes : List ℕ). placed old 0 bytes 40) c.header_of.ensures.value;
      two = c.write_arguments.ensures.written;
      three = c.write_at-2.ensures;
    } in
    let all = all_written old (header message) (flat_map word message.args) message.payload n writes in
    record {
      message = is_message message c.header_of.ensures.ranges c.write_arguments.ensures.fit c.requires.message;
      len = omega (arith, length-spelling message);
      written = all ∙ ap (λ (k : ℕ). spelling message ++ drop k old) (omega arith);
    }
