use Rattle.std.proofs.Common.{rules}
use Rattle.std.proofs.lemmas.Iterator.Consumers.{map_from_collect, YieldsList-from_filter, YieldsList-at}
use Rattle.std.proofs.lemmas.Iterator.Splits.{YieldsList-from_slice_split}
use Rattle.std.specs.Char.{is_ascii_whitespace}
use Rattle.rb_words.specs.Services.{is_some_word}
use Rattle.rb_words.proofs.services.words_of.Goals as goal

pub returns : goal.returns
returns c =
    map_from_collect _ c.collect.ensures.ran (YieldsList-from_filter _ is_some_word
    (YieldsList-at c.filter.ensures.source (YieldsList-from_slice_split _ is_ascii_whitespace c.args.line.now c.split.ensures.rest c.split.ensures.done c.split.ensures.closure (λ x r q k. search rules)))
    c.filter.ensures.closure (λ x r q k. search rules))
