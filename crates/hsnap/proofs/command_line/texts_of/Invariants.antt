use Rattle.std.proofs.Common.{◌≡◌, take, map}
use Rattle.std.specs.List.{All}
use Rattle.std.specs.Str.{IsUtf8}
use Rattle.hsnap.proofs.command_line.texts_of.Given as goal

abbrev pub invariant-loop-word : goal.invariant-loop-word
invariant-loop-word l = record {
  same : map (λ text. text.now) l.texts.items ≡ take l.word-index l.words;
  spelled : All IsUtf8 (take l.word-index l.words);
}
