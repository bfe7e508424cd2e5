-- The figures that show crosspoints and cards, in each part of a drawing.
use Rattle.std.proofs.Common.{◌≡◌, ℕ, List, [], ◌∷◌, ◌++◌, codes, Bool, true, false, cond, refl, ◌∙◌, append-nil, Option, Some, None, filter, flat_map, length}
use Rattle.std.proofs.Common.{map, nat_lt}
use Rattle.{std.specs.List.range_with_len, svg.specs.{Figure.{Figure, figures_of}, declared.shape.ShapeOf.TheVariants.Text}}
use Rattle.xbar_equip.specs.{Link.Link, declared.{link.LinkKind.{LinkKind, TheVariants.{LineLink, Junctor, TrunkLink}}, path.Path.Path}}
use Rattle.{xbar_plan.specs.Tables.Tables, xbar_office_drawing.specs.declared.{owned_card.OwnedCard.OwnedCard, office.TheConstants.{HEADS, KEY}}}
use Rattle.xbar_office_drawing.specs.{CardFace.{card_face, card_words}, Drawing.{count_text, office_with, path_alone}, Drawn.{is_evidence, path_evidence}}
use Rattle.xbar_office_drawing.specs.{Index.entry, Names.{first_number, line_name, named_line, names, names_after, names_from, trunk_name}}
use Rattle.xbar_office_drawing.specs.{Office.{bundle, fault, fault_in, office, two_frames}, PathInOffice.{path_dots, path_trails}, Shapes.blank_card}
use Rattle.xbar_office_drawing.specs.{Shapes.{frame_figures, frame_row, inner_link, shape_figures}, Switches.{path_card, path_title, switch_face, switches_of}}
use Rattle.xbar_office_drawing.proofs.Filters.{none_flat, none_in_both, none_map, none_then, told_flat, told_then}

-- ---- the shapes, the office and the names have none of them

pub no_shapes : filter is_evidence shape_figures ≡ []
unfolding frame_figures blank_card inner_link frame_row
no_shapes = refl

no_fault_in : (kind : LinkKind) (link : Link) → filter is_evidence (fault_in kind link ∷ []) ≡ []
no_fault_in LineLink link = refl
no_fault_in Junctor link = refl
no_fault_in TrunkLink link = refl

abbrev frames : List Figure
frames = figures_of KEY ++ figures_of HEADS ++ map bundle (range_with_len 0 100) ++ flat_map two_frames (range_with_len 0 10)

no_frames : filter is_evidence frames ≡ []
no_frames = refl

pub no_office : (plan : Tables) → filter is_evidence (office plan) ≡ []
unfolding office
no_office plan =
    none_in_both is_evidence frames (map fault plan.faults) no_frames (none_map is_evidence fault plan.faults (λ link. no_fault_in link.kind link))

no_line_by : (column : ℕ) (path : Path) (number : Option ℕ) (small : Bool) → filter is_evidence (cond small (named_line column path number ∷ []) []) ≡ []
no_line_by column path None true = refl
no_line_by column path (Some number) true = refl
no_line_by column path number false = refl

pub no_line : (plan : Tables) (column : ℕ) (path : Path) → filter is_evidence (line_name plan column path) ≡ []
unfolding line_name
no_line plan column path = no_line_by column path (first_number plan path.line) (nat_lt column 4)

no_trunk_by : (small : Bool) (figure : Figure) → is_evidence figure ≡ false → filter is_evidence (cond small (figure ∷ []) []) ≡ []
no_trunk_by true figure none = rw none refl
no_trunk_by false figure none = refl

pub no_trunk : (plan : Tables) (column : ℕ) (path : Path) → filter is_evidence (trunk_name plan column path) ≡ []
unfolding trunk_name
no_trunk plan column path = no_trunk_by (nat_lt column 3) _ refl

no_names_after : (plan : Tables) (earlier : List Path) (path : Path) → filter is_evidence (names_after plan earlier path) ≡ []
unfolding names_after
no_names_after plan earlier path = none_in_both is_evidence (line_name plan _ path) (trunk_name plan _ path) (no_line plan _ path) (no_trunk plan _ path)

pub no_names : (plan : Tables) (earlier paths : List Path) → filter is_evidence (names_from plan earlier paths) ≡ []
no_names plan earlier [] = refl
no_names plan earlier (path ∷ more) =
    none_in_both is_evidence (names_after plan earlier path) (names_from plan (earlier ++ path ∷ []) more) (no_names_after plan earlier path)
    (no_names plan (earlier ++ path ∷ []) more)

-- ---- paths and cards

no_trails : (plan : Tables) (path : Path) → filter is_evidence (path_trails plan path) ≡ []
unfolding path_trails
no_trails plan path = refl

all_dots : (plan : Tables) (path : Path) → filter is_evidence (path_dots plan path) ≡ path_dots plan path
all_dots plan path = refl

pub no_entry : (plan : Tables) (path : Path) → filter is_evidence (entry plan path) ≡ []
unfolding entry
no_entry plan path = refl

pub card_told : (owned : OwnedCard) → filter is_evidence (card_face owned) ≡ card_words owned ∷ []
unfolding card_face
card_told owned = refl

pub switches_told : (plan : Tables) (path : Path) → filter is_evidence (path_card plan path) ≡ path_evidence path
unfolding path_card path_title switches_of switch_face
switches_told plan path = refl

pub path_told : (plan : Tables) (path : Path) → filter is_evidence (path_alone plan path) ≡ path_dots plan path
unfolding path_alone
path_told plan path =
    let trails = path_trails plan path in
    let dots = path_dots plan path in
    let drawn : filter is_evidence (trails ++ dots) ≡ dots = none_then is_evidence trails dots (no_trails plan path) ∙ all_dots plan path in
    let named : filter is_evidence (trails ++ dots ++ line_name plan 0 path) ≡ dots =
    told_then is_evidence (trails ++ dots) (line_name plan 0 path) dots [] drawn (no_line plan 0 path) ∙ append-nil dots in
    told_then is_evidence (trails ++ dots ++ line_name plan 0 path) (trunk_name plan 0 path) dots [] named (no_trunk plan 0 path) ∙ append-nil dots

pub office_told : (plan : Tables) (paths : List Path) → filter is_evidence (office_with plan paths) ≡ flat_map (path_dots plan) paths
unfolding office_with
office_told plan paths =
    let base = Text (16, 30) (codes "big") (count_text (length paths)) ∷ office plan in
    let trails = flat_map (path_trails plan) paths in
    let dots = flat_map (path_dots plan) paths in
    let first : filter is_evidence (base ++ trails) ≡ [] =
    none_in_both is_evidence base trails (no_office plan) (none_flat is_evidence (path_trails plan) paths (no_trails plan)) in
    let second : filter is_evidence (base ++ trails ++ dots) ≡ dots =
    none_then is_evidence (base ++ trails) dots first ∙ told_flat is_evidence (path_dots plan) (path_dots plan) paths (all_dots plan) in
    told_then is_evidence (base ++ trails ++ dots) (names plan paths) dots [] second (no_names plan [] paths) ∙ append-nil dots
