-- The eight lines of a path are whole, and none is the title of a card.
use Rattle.std.proofs.Common.{◌≡◌, ℕ, true, false, List, [], ◌∷◌, refl, arith, ◌==◌, codes, nat_lt, ne_eqb}
use Rattle.{std.specs.List.concat, xbar_equip.specs.{Digits.digit, Path.{path_text, line_link, junctor, trunk_link}, declared.path.Path.Path}}
use Rattle.{xbar_equip.specs.TextLines.IsWholeLine, xbar_office_text.specs.PathLines.{title_line, frames_line, links_line, edges_line, switch_text}}
use Rattle.xbar_office_text.specs.{PathLines.{switches_line, in_three, numbers_line, words_line, fields_line, values_line, path_lines}, Titles.is_title}
use Rattle.xbar_office_text.proofs.OtherLines.{IsOther, HasNoTitle, none_append, none_line, none_nothing}
use Rattle.xbar_office_text.proofs.PlainTexts.{plain_channel, plain_choice, plain_decimal, plain_line, plain_link, plain_place}
use Rattle.xbar_office_text.proofs.WholeLines.{lacks_feed, IsPlain, plain_append, plain_nothing, plain_with, whole_append, whole_feed, whole_with}

-- a digit is no blank, with which a title begins
pub blank_unlike : (d : ℕ) → (32 == digit d) ≡ false
blank_unlike d = ne_eqb 32 (digit d) (λ e. omega arith)

plain_path : (path : Path) → IsPlain (path_text path)
plain_path path =
    plain_append (plain_line path.line) (plain_with (codes "-") refl
    (plain_append (plain_channel path.channel) (plain_with (codes "-") refl (plain_place path.place))))

title_line_whole : (path : Path) (member : List ℕ) → IsPlain member → IsWholeLine (title_line path member)
unfolding title_line
title_line_whole path member p =
    whole_append (plain_path path) (whole_with (codes ": line ") refl (whole_append (plain_line path.line) (whole_with (codes " to ") refl
    (whole_append p (whole_with (codes ", channel ") refl (whole_append (plain_channel path.channel) whole_feed))))))

title_line_unlike : (path : Path) (member : List ℕ) → is_title (title_line path member) ≡ false
unfolding title_line
title_line_unlike path member = rw (blank_unlike path.line.frame)

frames_line_whole : (path : Path) → IsWholeLine (frames_line path)
unfolding frames_line
frames_line_whole path =
    whole_with (codes "         +-- line link frame ") refl
    (whole_append (plain_decimal path.line.frame) (whole_with (codes " --+         +- trunk link frame ") refl
    (whole_append (plain_decimal path.place.frame) (whole_with (codes " --+") refl whole_feed))))

frames_line_unlike : (path : Path) → is_title (frames_line path) ≡ false
unfolding frames_line
frames_line_unlike path = refl

links_line_whole : (path : Path) → IsWholeLine (links_line path)
unfolding links_line
links_line_whole path =
    whole_append (plain_line path.line) (whole_with (codes " ----X-------- ") refl
    (whole_append (plain_link (line_link path)) (whole_with (codes " --------X--") refl
    (whole_append (plain_link (junctor path)) (whole_with (codes "--X-------- ") refl
    (whole_append (plain_link (trunk_link path)) (whole_with (codes " --------X---- ") refl
    (whole_append (plain_place path.place) whole_feed))))))))

links_line_unlike : (path : Path) → is_title (links_line path) ≡ false
unfolding links_line
links_line_unlike path = rw (blank_unlike path.line.frame)

edges_line_other : IsOther edges_line
unfolding edges_line
edges_line_other = record { whole = whole_with (codes "         +-----------------------+         +-----------------------+") refl whole_feed; other = refl }

plain_switch : (frame switch : ℕ) → IsPlain (switch_text frame switch)
unfolding switch_text
plain_switch frame switch = plain_append (plain_decimal frame) (plain_with (codes ",") refl (plain_append (plain_decimal switch) plain_nothing))

switches_line_other : (path : Path) → IsOther (switches_line path)
unfolding switches_line
switches_line_other path = record {
  whole =
      whole_with (codes "switch  ") refl (whole_append (plain_switch path.line.frame path.line.switch) (whole_with (codes "                     ") refl
      (whole_append (plain_switch path.line.frame path.channel) (whole_with (codes "       ") refl (whole_append (plain_switch path.place.frame path.channel)
      (whole_with (codes "                     ") refl (whole_append (plain_switch path.place.frame path.place.switch) whole_feed)))))));
  other = refl;
}

plain_three : (n : ℕ) → IsPlain (in_three n)
unfolding in_three
plain_three n =
    plain_choice (nat_lt n 10) (plain_with (codes "  ") refl (plain_decimal n))
    (plain_choice (nat_lt n 100) (plain_with (codes " ") refl (plain_decimal n)) (plain_decimal n))

numbers_line_whole : (name : List ℕ) (a b c d : ℕ) → lacks_feed name ≡ true → IsWholeLine (numbers_line name (a ∷ b ∷ c ∷ d ∷ []))
unfolding numbers_line
numbers_line_whole name a b c d h =
    whole_with name h (whole_append (plain_three a) (whole_with (codes "                     ") refl
    (whole_append (plain_three b) (whole_with (codes "       ") refl
    (whole_append (plain_three c) (whole_with (codes "                     ") refl (whole_append (plain_three d) whole_feed)))))))

word_line_unlike : (a b c d : ℕ) → is_title (numbers_line (codes "word    ") (a ∷ b ∷ c ∷ d ∷ [])) ≡ false
unfolding numbers_line
word_line_unlike a b c d = refl

field_line_unlike : (a b c d : ℕ) → is_title (numbers_line (codes "field   ") (a ∷ b ∷ c ∷ d ∷ [])) ≡ false
unfolding numbers_line
field_line_unlike a b c d = refl

value_line_unlike : (a b c d : ℕ) → is_title (numbers_line (codes "holds   ") (a ∷ b ∷ c ∷ d ∷ [])) ≡ false
unfolding numbers_line
value_line_unlike a b c d = refl

words_line_other : (path : Path) → IsOther (words_line path)
words_line_other path = record { whole = numbers_line_whole (codes "word    ") _ _ _ _ refl; other = word_line_unlike _ _ _ _ }

fields_line_other : (path : Path) → IsOther (fields_line path)
fields_line_other path = record { whole = numbers_line_whole (codes "field   ") _ _ _ _ refl; other = field_line_unlike _ _ _ _ }

values_line_other : (path : Path) → IsOther (values_line path)
values_line_other path = record { whole = numbers_line_whole (codes "holds   ") _ _ _ _ refl; other = value_line_unlike _ _ _ _ }

-- a line, and what is left of the lines
then_line : (line : List ℕ) (more : List (List ℕ)) → IsOther line → HasNoTitle (concat more) → HasNoTitle (concat (line ∷ more))
then_line line more h q = none_append line (concat more) (none_line line h) q

pub none_in_path : (path : Path) (member : List ℕ) → IsPlain member → HasNoTitle (path_lines path member)
unfolding path_lines
none_in_path path member p =
    let l8 = values_line path ∷ [] in
    let l7 = fields_line path ∷ l8 in
    let l6 = words_line path ∷ l7 in
    let l5 = switches_line path ∷ l6 in
    let l4 = edges_line ∷ l5 in
    let l3 = links_line path ∷ l4 in
    let l2 = frames_line path ∷ l3 in
    then_line (title_line path member) l2 (record { whole = title_line_whole path member p; other = title_line_unlike path member })
    (then_line (frames_line path) l3 (record { whole = frames_line_whole path; other = frames_line_unlike path })
    (then_line (links_line path) l4 (record { whole = links_line_whole path; other = links_line_unlike path })
    (then_line edges_line l5 edges_line_other
    (then_line (switches_line path) l6 (switches_line_other path)
    (then_line (words_line path) l7 (words_line_other path)
    (then_line (fields_line path) l8 (fields_line_other path) (then_line (values_line path) [] (values_line_other path) none_nothing)))))))
