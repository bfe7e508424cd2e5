-- What the lines of a whole office's text are.
use Rattle.std.proofs.Common.{◌≡◌, ℕ, ◌+◌, false, List, [], ◌∷◌, ◌++◌, length, map, take, refl, ap, ◌∙◌, arith, append-nil, codes, filter, flat_map, take_at}
use Rattle.{std.proofs.lemmas.List.length-map, xbar_equip.specs.{declared.path.Path.Path, TextLines.lines}, xbar_office.specs.Standing.ends_at_register}
use Rattle.{xbar_office.specs.declared.reply.Record.Record, xbar_office_text.specs.{PathLines.path_lines, Cards.{cards_of, title_row}, Ends.end_text}}
use Rattle.xbar_office_text.specs.{Faults.{faults_of, fault_lines}, Glance.{glance, glance_line}, Picture.{heading, picture}, Text.office_text, Titles.is_title}
use Rattle.xbar_office_text.proofs.{CardLines.titles_of_records, FaultLines.none_in_faults, GlanceLines.{glance_line_whole, lines_of_glance, plain_member_text}}
use Rattle.xbar_office_text.proofs.OtherLines.{IsOther, HasNoTitle, none_append, none_choice, none_flat_map, none_line}
use Rattle.xbar_office_text.proofs.{PictureLines.{blank_unlike, none_in_path}, PlainTexts.plain_choice}
use Rattle.{xbar_office_text.proofs.WholeLines.{IsPlain, plain_append, whole_feed, whole_with}, xbar_plan.specs.{Lawful.IsLawful, Tables.Tables}}

glance_line_unlike : (plan : Tables) (path : Path) → is_title (glance_line plan path) ≡ false
unfolding glance_line
glance_line_unlike plan path = rw (blank_unlike path.line.frame)

no_path_line : IsOther (codes "No path is up.\n")
no_path_line = record { whole = whole_with (codes "No path is up.") refl whole_feed; other = refl }

glance_heading : IsOther (codes "PATHS AT A GLANCE\n")
glance_heading = record { whole = whole_with (codes "PATHS AT A GLANCE") refl whole_feed; other = refl }

none_in_glance : (plan : Tables) → IsLawful plan → (paths : List Path) → HasNoTitle (glance plan paths)
unfolding glance
none_in_glance plan lawful [] = none_line (codes "No path is up.\n") no_path_line
none_in_glance plan lawful (path ∷ paths) =
    none_append (codes "PATHS AT A GLANCE\n") (flat_map (glance_line plan) (path ∷ paths)) (none_line (codes "PATHS AT A GLANCE\n") glance_heading)
    (none_flat_map (glance_line plan) (path ∷ paths)
    (λ p. none_line (glance_line plan p) (record { whole = glance_line_whole plan lawful p; other = glance_line_unlike plan p })))

blank_line : IsOther (10 ∷ [])
blank_line = record { whole = whole_feed; other = refl }

register_line : IsOther (codes "A REGISTER'S PATH\n")
register_line = record { whole = whole_with (codes "A REGISTER'S PATH") refl whole_feed; other = refl }

call_line : IsOther (codes "A CALL'S PATH\n")
call_line = record { whole = whole_with (codes "A CALL'S PATH") refl whole_feed; other = refl }

none_in_heading : (plan : Tables) (path : Path) → HasNoTitle (heading plan path)
unfolding heading
none_in_heading plan path =
    none_choice (ends_at_register plan path) (codes "\nA REGISTER'S PATH\n") (codes "\nA CALL'S PATH\n")
    (none_append (10 ∷ []) (codes "A REGISTER'S PATH\n") (none_line (10 ∷ []) blank_line) (none_line (codes "A REGISTER'S PATH\n") register_line))
    (none_append (10 ∷ []) (codes "A CALL'S PATH\n") (none_line (10 ∷ []) blank_line) (none_line (codes "A CALL'S PATH\n") call_line))

plain_end : (plan : Tables) → IsLawful plan → (path : Path) → IsPlain (end_text plan path)
unfolding end_text
plain_end plan lawful path =
    plain_append (plain_choice (ends_at_register plan path) {x = codes "register "} {y = codes "trunk "} (record { lacks = refl }) (record { lacks = refl }))
    (plain_member_text plan lawful path)

none_in_picture : (plan : Tables) → IsLawful plan → (path : Path) → HasNoTitle (picture plan path)
unfolding picture
none_in_picture plan lawful path =
    none_append (heading plan path) (path_lines path (end_text plan path)) (none_in_heading plan path)
    (none_in_path path (end_text plan path) (plain_end plan lawful path))

-- the titles among the lines are those of all cards
pub titles_of_office : (plan : Tables) (paths : List Path) (records : List Record) → IsLawful plan
    → filter is_title (lines (office_text plan paths records)) ≡ map title_row (flat_map (λ (owner : Record). owner.reply.cards) records)
unfolding office_text
titles_of_office plan paths records lawful =
    let r3 = flat_map cards_of records ++ [] in
    let r2 = fault_lines (faults_of plan) ++ r3 in
    let r1 = flat_map (picture plan) paths ++ r2 in
    (none_in_glance plan lawful paths).skips r1
    ∙ (none_flat_map (picture plan) paths (none_in_picture plan lawful)).skips r2
    ∙ (none_in_faults (faults_of plan)).skips r3
    ∙ ap (λ (t : List ℕ). filter is_title (lines t)) (append-nil (flat_map cards_of records))
    ∙ titles_of_records records

-- the first lines are the heading and those of the paths
pub first_lines_of_office : (plan : Tables) (path : Path) (paths : List Path) (records : List Record) → IsLawful plan →
    take (2 + length paths) (lines (office_text plan (path ∷ paths) records)) ≡ codes "PATHS AT A GLANCE\n" ∷ map (glance_line plan) (path ∷ paths)
unfolding office_text
first_lines_of_office plan path paths records lawful =
    let rest = flat_map (picture plan) (path ∷ paths) ++ (fault_lines (faults_of plan) ++ (flat_map cards_of records ++ [])) in
    let first = codes "PATHS AT A GLANCE\n" ∷ map (glance_line plan) (path ∷ paths) in
    let many : length first ≡ 2 + length paths = omega (arith, length-map paths (glance_line plan)) in
    ap (take (2 + length paths)) (lines_of_glance plan path paths rest lawful) ∙ take_at first (lines rest) (2 + length paths) many
