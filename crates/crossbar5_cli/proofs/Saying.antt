-- Texts that are written one after the other.
use Rattle.std.proofs.Common.{◌≡◌, ◌++◌, ℕ, List, Option, None, Some, Bor, ap, refl, option_map}
use Rattle.{std.{proofs.KnownBytes.Appends-trans, specs.Io.KnownBytes.Appends}, clap.specs.declared.error.kind.ErrorKind.ErrorKind}
use Rattle.crossbar5_cli.specs.{Printed.{IsKnownAs, IsPut, IsRefusalText, IsSentenceLine, IsStderrText, lines_text}, Sentences.{sentence_on_printing, text_of}}
use Rattle.crossbar5_cli.specs.declared.{ended.Ending.Ending, sentence.Sentence.Sentence}

-- the line of an ending and the reasons, and then the line of a sentence
pub all_said : (a b c : Option (List ℕ)) (ending : Ending) (reasons : Option (List ℕ)) (sentence : Option (Option (List ℕ)))
    → Appends a b (lines_text ending reasons) → IsPut (IsSentenceLine sentence) b c
    → IsPut (IsStderrText ending reasons sentence) a c
all_said a b c ending reasons sentence h said = (
  lines_text ending reasons ++ said.0,
  record { line = said.0; line_is = said.1; text_is = refl },
  Appends-trans a b c (lines_text ending reasons) said.0 h said.2,
)

-- clap's text, and what belongs to the ending
pub refusal_said : (a b c : Option (List ℕ)) (kind : ErrorKind) (known : Option (List ℕ)) (ending : Ending)
    → IsPut (IsKnownAs known) a b
    → IsPut (IsStderrText ending None (option_map text_of (sentence_on_printing kind ending))) b c
    → IsPut (IsRefusalText kind known ending) a c
refusal_said a b c kind known ending text said = (
  text.0 ++ said.0,
  record { text = text.0; text_is = text.1; rest = said.0; rest_is = said.1; written_is = refl },
  Appends-trans a b c text.0 said.0 text.2 said.2,
)

-- the texts of what references point to
pub text_behind : (found : Option (Bor Sentence)) (sentence : Option Sentence) → option_map (λ text. text.now) found ≡ sentence
    → option_map (λ text. text_of text.now) found ≡ option_map text_of sentence
text_behind None sentence is = ap (option_map text_of) is
text_behind (Some found) sentence is = ap (option_map text_of) is
