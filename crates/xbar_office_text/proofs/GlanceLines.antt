-- A path at a glance is one line, since the names of groups have letters and digits alone.
use Rattle.std.proofs.Common.{◌≡◌, ℕ, Bool, true, false, List, [], ◌∷◌, ◌++◌, map, refl, ap, ◌∙◌, subst, append_assoc, ◌==◌, not, codes, flat_map, Option, Some}
use Rattle.std.proofs.Common.{None, option_and_then, slice_get, eqb-true}
use Rattle.{std.specs.{List.list_all, Option.option_map_or}, xbar_equip.proofs.{Logic.{both, both_hold}, WholeLines.whole_line_first}}
use Rattle.{xbar_equip.specs.{Ten.TrunkPlace, declared.path.Path.Path, TextLines.{lines, IsWholeLine}}, xbar_office.specs.Standing.ends_at_register}
use Rattle.xbar_plan.specs.{Group.TrunkGroup, Lawful.{IsLawful, is_name, is_name_character, is_well_formed_group, has_its_places}}
use Rattle.xbar_plan.{specs.{Tables.{Tables, member_place}, declared.group.MemberPlace.MemberPlace}, proofs.{Distinct.item_passes, LawfulParts.formed}}
use Rattle.xbar_office_text.specs.{Ends.{group_name, member_name, member_text, other_text, use_text, with_place}, Glance.{glance, glance_line}}
use Rattle.xbar_office_text.proofs.PlainTexts.{plain_choice, plain_channel, plain_decimal, plain_line, plain_place}
use Rattle.xbar_office_text.proofs.WholeLines.{lacks_feed, IsPlain, plain_append, plain_nothing, plain_with, whole_append, whole_feed, whole_with}

-- a character of a name is no line feed
character_unlike : (x : ℕ) (b : Bool) → (x == 10) ≡ b → is_name_character x ≡ true → not b ≡ true
character_unlike x true e named = let feed : is_name_character 10 ≡ true = subst (λ (y : ℕ). is_name_character y ≡ true) (eqb-true x 10 e) named in cc
character_unlike x false e named = refl

characters_lack : (name : List ℕ) → list_all is_name_character name ≡ true → lacks_feed name ≡ true
characters_lack [] h = refl
characters_lack (x ∷ name) h =
    let h2 = both (is_name_character x) (list_all is_name_character name) h in
    both_hold _ _ (character_unlike x (x == 10) refl h2.0) (characters_lack name h2.1)

plain_found : (plan : Tables) → IsLawful plan → (number : ℕ) (found : Option TrunkGroup) → slice_get plan.groups number ≡ found
    → IsPlain (option_map_or (λ (g : TrunkGroup). g.name) found [])
plain_found plan lawful number None e = plain_nothing
plain_found plan lawful number (Some group) e =
    let fine = item_passes is_well_formed_group plan.groups number group (formed plan lawful).groups e in
    let name = both (is_name group.name) (has_its_places group) fine in
    record { lacks = characters_lack group.name (both _ (list_all is_name_character group.name) name.0).1 }

plain_name : (plan : Tables) → IsLawful plan → (number : ℕ) → IsPlain (group_name plan number)
plain_name plan lawful number = plain_found plan lawful number (slice_get plan.groups number) refl

plain_member_name : (plan : Tables) → IsLawful plan → (member : MemberPlace) → IsPlain (member_name plan member)
plain_member_name plan lawful member =
    plain_append (plain_name plan lawful member.group) (plain_with (codes " ") refl (plain_append (plain_decimal member.index) plain_nothing))

plain_member : (plan : Tables) → IsLawful plan → (found : Option MemberPlace) → IsPlain (option_map_or (member_name plan) found (codes "no member"))
plain_member plan lawful None = record { lacks = refl }
plain_member plan lawful (Some member) = plain_member_name plan lawful member

pub plain_member_text : (plan : Tables) → IsLawful plan → (path : Path) → IsPlain (member_text plan path)
unfolding member_text
plain_member_text plan lawful path = plain_member plan lawful (member_place plan path.place)

plain_other : (other : Option TrunkPlace) → IsPlain (option_map_or with_place other [])
plain_other None = plain_nothing
plain_other (Some place) = plain_with (codes ", with ") refl (plain_place place)

plain_other_text : (plan : Tables) (path : Path) → IsPlain (other_text plan path)
unfolding other_text
plain_other_text plan path = plain_other (option_and_then (λ (m : MemberPlace). m.other) (member_place plan path.place))

plain_use : (plan : Tables) → IsLawful plan → (path : Path) → IsPlain (use_text plan path)
unfolding use_text
plain_use plan lawful path =
    plain_append (plain_choice (ends_at_register plan path) {x = codes "register's path: "} {y = codes "call: "} (record { lacks = refl })
    (record { lacks = refl }))
    (plain_append (plain_member_text plan lawful path) (plain_append (plain_other_text plan path) plain_nothing))

pub glance_line_whole : (plan : Tables) → IsLawful plan → (path : Path) → IsWholeLine (glance_line plan path)
unfolding glance_line
glance_line_whole plan lawful path =
    whole_append (plain_line path.line) (whole_with (codes " --[frame ") refl
    (whole_append (plain_decimal path.line.frame) (whole_with (codes "]-- channel ") refl
    (whole_append (plain_channel path.channel) (whole_with (codes " --[frame ") refl
    (whole_append (plain_decimal path.place.frame) (whole_with (codes "]-- ") refl
    (whole_append (plain_place path.place) (whole_with (codes "   ") refl (whole_append (plain_use plan lawful path) whole_feed))))))))))

lines_of_paths : (plan : Tables) → IsLawful plan → (paths : List Path) (rest : List ℕ)
    → lines (flat_map (glance_line plan) paths ++ rest) ≡ map (glance_line plan) paths ++ lines rest
lines_of_paths plan lawful [] rest = refl
lines_of_paths plan lawful (path ∷ paths) rest =
    ap lines (append_assoc (glance_line plan path) (flat_map (glance_line plan) paths) rest)
    ∙ whole_line_first (glance_line plan path) (flat_map (glance_line plan) paths ++ rest) (glance_line_whole plan lawful path)
    ∙ ap (λ (more : List (List ℕ)). glance_line plan path ∷ more) (lines_of_paths plan lawful paths rest)

heading_whole : IsWholeLine (codes "PATHS AT A GLANCE\n")
heading_whole = whole_with (codes "PATHS AT A GLANCE") refl whole_feed

-- below the heading each path has its line
pub lines_of_glance : (plan : Tables) (path : Path) (paths : List Path) (rest : List ℕ) → IsLawful plan →
    lines (glance plan (path ∷ paths) ++ rest) ≡ (codes "PATHS AT A GLANCE\n" ∷ map (glance_line plan) (path ∷ paths)) ++ lines rest
unfolding glance
lines_of_glance plan path paths rest lawful =
    whole_line_first (codes "PATHS AT A GLANCE\n") (flat_map (glance_line plan) (path ∷ paths) ++ rest) heading_whole
    ∙ ap (λ (more : List (List ℕ)). codes "PATHS AT A GLANCE\n" ∷ more) (lines_of_paths plan lawful (path ∷ paths) rest)
