-- the word of a place leads to the place
use Rattle.std.proofs.Common.{◌≡◌, ℕ, ◌+◌, ◌-◌, ◌*◌, ◌/◌, ◌%◌, ◌<◌, ◌≤◌, Bool, false, refl, ◌∙◌, ap, arith, nat_lt, if◌then◌else◌, lt-ltb}
use Rattle.xbar_step_text.specs.{Places.{on_line_frame, on_trunk_frame, place_of}, declared.place.Place.Place}
use Rattle.xbar_step_text.specs.declared.place.Place.TheVariants.{LineSwitch, LineJunctor, TrunkSwitch, TrunkJunctor, Group, Other}

not_below : (a b : ℕ) → b ≤ a → nat_lt a b ≡ false
not_below a b h = grind arith

abbrev trunks : ℕ → Place
trunks n = if nat_lt n 400 then on_trunk_frame ((n - 200) / 20) ((n - 200) % 20) else (if nat_lt n 416 then Group (n - 400) else Other n)

-- by its frame and its number there
line_part : (n frame at : ℕ) → n ≡ 20 * frame + at → frame < 10 → at < 20 → place_of n ≡ on_line_frame frame at
unfolding place_of
line_part n frame at is f a =
    let first : n / 20 ≡ frame = omega arith in
    let second : n % 20 ≡ at = omega arith in
    ap (λ (b : Bool). if b then on_line_frame (n / 20) (n % 20) else trunks n) (lt-ltb n 200 (omega arith))
    ∙ ap (λ (k : ℕ). on_line_frame k (n % 20)) first ∙ ap (on_line_frame frame) second

trunk_part : (n frame at : ℕ) → n ≡ 200 + 20 * frame + at → frame < 10 → at < 20 → place_of n ≡ on_trunk_frame frame at
unfolding place_of
trunk_part n frame at is f a =
    let first : (n - 200) / 20 ≡ frame = omega arith in
    let second : (n - 200) % 20 ≡ at = omega arith in
    ap (λ (b : Bool). if b then on_line_frame (n / 20) (n % 20) else trunks n) (not_below n 200 (omega arith))
    ∙ ap (λ (b : Bool). if b then on_trunk_frame ((n - 200) / 20) ((n - 200) % 20) else (if nat_lt n 416 then Group (n - 400) else Other n))
    (lt-ltb n 400 (omega arith))
    ∙ ap (λ (k : ℕ). on_trunk_frame k ((n - 200) % 20)) first ∙ ap (on_trunk_frame frame) second

pub line_switch_told : (frame switch : ℕ) → frame < 10 → switch < 10 → place_of (20 * frame + switch) ≡ LineSwitch frame switch
line_switch_told frame switch f s =
    line_part (20 * frame + switch) frame switch refl f (omega arith)
    ∙ ap (λ (b : Bool). if b then LineSwitch frame switch else LineJunctor frame (switch - 10)) (lt-ltb switch 10 s)

pub trunk_switch_told : (frame switch : ℕ) → frame < 10 → switch < 10 → place_of (200 + 20 * frame + switch) ≡ TrunkSwitch frame switch
trunk_switch_told frame switch f s =
    trunk_part (200 + 20 * frame + switch) frame switch refl f (omega arith)
    ∙ ap (λ (b : Bool). if b then TrunkSwitch frame switch else TrunkJunctor frame (switch - 10)) (lt-ltb switch 10 s)

pub line_junctor_told : (frame channel : ℕ) → frame < 10 → channel < 10 → place_of (20 * frame + 10 + channel) ≡ LineJunctor frame channel
line_junctor_told frame channel f s =
    let at : 10 + channel - 10 ≡ channel = omega arith in
    line_part (20 * frame + 10 + channel) frame (10 + channel) (omega arith) f (omega arith)
    ∙ ap (λ (b : Bool). if b then LineSwitch frame (10 + channel) else LineJunctor frame (10 + channel - 10)) (not_below (10 + channel) 10 (omega arith))
    ∙ ap (LineJunctor frame) at

pub trunk_junctor_told : (frame channel : ℕ) → frame < 10 → channel < 10 → place_of (200 + 20 * frame + 10 + channel) ≡ TrunkJunctor frame channel
trunk_junctor_told frame channel f s =
    let at : 10 + channel - 10 ≡ channel = omega arith in
    trunk_part (200 + 20 * frame + 10 + channel) frame (10 + channel) (omega arith) f (omega arith)
    ∙ ap (λ (b : Bool). if b then TrunkSwitch frame (10 + channel) else TrunkJunctor frame (10 + channel - 10)) (not_below (10 + channel) 10 (omega arith))
    ∙ ap (TrunkJunctor frame) at

pub group_told : (group : ℕ) → group < 16 → place_of (400 + group) ≡ Group group
unfolding place_of
group_told group g =
    let n = 400 + group in
    let at : 400 + group - 400 ≡ group = omega arith in
    ap (λ (b : Bool). if b then on_line_frame (n / 20) (n % 20) else trunks n) (not_below (400 + group) 200 (omega arith))
    ∙ ap (λ (b : Bool). if b then on_trunk_frame ((n - 200) / 20) ((n - 200) % 20) else (if nat_lt n 416 then Group (n - 400) else Other n))
    (not_below (400 + group) 400 (omega arith))
    ∙ ap (λ (b : Bool). if b then Group (n - 400) else Other n) (lt-ltb (400 + group) 416 (omega arith))
    ∙ ap Group at
