-- the tests of ranges are the ranges, of one value and of each item of a list
use Rattle.std.proofs.Common.{◌≡◌, Bool, true, List, ◌&&◌, nat_lt, ltb-true, lt-ltb}
use Rattle.{std.specs.List.list_all, xbar_equip.specs.{Among.IsIn, Len.{Line, IsLine, is_line}, Ten.{TrunkPlace, IsTrunkPlace, is_trunk_place}}}
use Rattle.xbar_equip.{specs.{Link.{Link, IsLink, is_link}, Path.IsPath, declared.path.Path.Path}, proofs.{Logic.{both, both_hold}, Lists.each_passes}}

three : (a b c : Bool) → (a && b && c) ≡ true → (a ≡ true) × (b ≡ true) × (c ≡ true)
three a b c e = let x = both (a && b) c e in let y = both a b x.0 in (y.0, y.1, x.1)

three_hold : (a b c : Bool) → a ≡ true → b ≡ true → c ≡ true → (a && b && c) ≡ true
three_hold a b c x y z = both_hold (a && b) c (both_hold a b x y) z

pub line_passes : (line : Line) → IsLine line → is_line line ≡ true
line_passes line h =
    three_hold (nat_lt line.frame 10) (nat_lt line.switch 10) (nat_lt line.x 30) (lt-ltb line.frame 10 h.frame) (lt-ltb line.switch 10 h.switch)
    (lt-ltb line.x 30 h.x)

pub line_in_range : (line : Line) → is_line line ≡ true → IsLine line
line_in_range line e =
    let x = three (nat_lt line.frame 10) (nat_lt line.switch 10) (nat_lt line.x 30) e in
    record { frame = ltb-true line.frame 10 x.0; switch = ltb-true line.switch 10 x.1; x = ltb-true line.x 30 x.2 }

pub place_passes : (place : TrunkPlace) → IsTrunkPlace place → is_trunk_place place ≡ true
place_passes place h =
    three_hold (nat_lt place.frame 10) (nat_lt place.switch 10) (nat_lt place.appearance 10) (lt-ltb place.frame 10 h.frame) (lt-ltb place.switch 10 h.switch)
    (lt-ltb place.appearance 10 h.appearance)

pub place_in_range : (place : TrunkPlace) → is_trunk_place place ≡ true → IsTrunkPlace place
place_in_range place e =
    let x = three (nat_lt place.frame 10) (nat_lt place.switch 10) (nat_lt place.appearance 10) e in
    record { frame = ltb-true place.frame 10 x.0; switch = ltb-true place.switch 10 x.1; appearance = ltb-true place.appearance 10 x.2 }

pub link_passes : (link : Link) → IsLink link → is_link link ≡ true
link_passes link h =
    three_hold (nat_lt link.frame 10) (nat_lt link.at 10) (nat_lt link.channel 10) (lt-ltb link.frame 10 h.frame) (lt-ltb link.at 10 h.at)
    (lt-ltb link.channel 10 h.channel)

pub link_in_range : (link : Link) → is_link link ≡ true → IsLink link
link_in_range link e =
    let x = three (nat_lt link.frame 10) (nat_lt link.at 10) (nat_lt link.channel 10) e in
    record { frame = ltb-true link.frame 10 x.0; at = ltb-true link.at 10 x.1; channel = ltb-true link.channel 10 x.2 }

-- a path's three parts
abbrev pub is_path : Path → Bool
is_path path = is_line path.line && nat_lt path.channel 10 && is_trunk_place path.place

pub path_passes : (path : Path) → IsPath path → is_path path ≡ true
path_passes path h =
    three_hold (is_line path.line) (nat_lt path.channel 10) (is_trunk_place path.place) (line_passes path.line h.line) (lt-ltb path.channel 10 h.channel)
    (place_passes path.place h.place)

pub path_in_range : (path : Path) → is_path path ≡ true → IsPath path
path_in_range path e =
    let x = three (is_line path.line) (nat_lt path.channel 10) (is_trunk_place path.place) e in
    record { line = line_in_range path.line x.0; channel = ltb-true path.channel 10 x.1; place = place_in_range path.place x.2 }

-- each item of a list is in range if all pass the test
pub lines_in_range : (lines : List Line) → list_all is_line lines ≡ true → (line : Line) → IsIn line lines → IsLine line
lines_in_range lines all line within = line_in_range line (each_passes is_line lines line all within)

pub places_in_range : (places : List TrunkPlace) → list_all is_trunk_place places ≡ true → (place : TrunkPlace) → IsIn place places → IsTrunkPlace place
places_in_range places all place within = place_in_range place (each_passes is_trunk_place places place all within)

pub links_in_range : (links : List Link) → list_all is_link links ≡ true → (link : Link) → IsIn link links → IsLink link
links_in_range links all link within = link_in_range link (each_passes is_link links link all within)

pub paths_in_range : (paths : List Path) → list_all is_path paths ≡ true → (path : Path) → IsIn path paths → IsPath path
paths_in_range paths all path within = path_in_range path (each_passes is_path paths path all within)
