use Rattle.viz_lex.proofs.ItemLemmas.{decides-word, decides-number, decides-decimal, decides-keyword}
use Rattle.viz_lex.proofs.PassRules.{decides-line_end, decides-block, decides-words, decides-metadata}
use Rattle.viz_lex.proofs.rule_laws.items_are_decided.Goals as goal

pub returns-clause-word : goal.returns-clause-word
returns-clause-word c = decides-word

pub returns-clause-number : goal.returns-clause-number
returns-clause-number c = decides-number

pub returns-clause-decimal : goal.returns-clause-decimal
returns-clause-decimal c = decides-decimal

pub returns-clause-keyword : goal.returns-clause-keyword
returns-clause-keyword c = decides-keyword

pub returns-clause-line_end : goal.returns-clause-line_end
returns-clause-line_end c = decides-line_end

pub returns-clause-block : goal.returns-clause-block
returns-clause-block c = decides-block

pub returns-clause-words : goal.returns-clause-words
returns-clause-words c = decides-words

pub returns-clause-metadata : goal.returns-clause-metadata
returns-clause-metadata c = decides-metadata
