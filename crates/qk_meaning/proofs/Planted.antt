-- Small rows, one for each wrong definition that is planted in must-fail/; the worked examples stand in a crate of their own.
use Rattle.std.specs.Prelude.{◌≡◌, refl, pos, true, false, [], ◌∷◌, codes, Some}
use Rattle.qk_meaning.specs.Value.{Value, Fields, Undefined, Fragment, Int, Words, Ref, Closure, end, field}
use Rattle.qk_meaning.specs.World.{Signal, Prop, Tasked, Instance}
use Rattle.qk_meaning.specs.Fault.{RenderWrite, NoProperty, TypeMismatch}
use Rattle.qk_meaning.specs.Operators.{Fails}
use Rattle.qk_meaning.specs.Heap.{Not_there, read_member}
use Rattle.qk_meaning.specs.Methods.{keys_in}
use Rattle.qk_meaning.specs.Doing.{Gives}
use Rattle.qk_meaning.specs.Happening.{Signal_hook, Gives_nothing}
use Rattle.qk_meaning.specs.Running.{Running, Outside}
use Rattle.qk_meaning.specs.Hooks.{answered_hook}
use Rattle.qk_meaning.specs.Writing.{in_the_way}
use Rattle.qk_meaning.specs.Same.{same}
use Rattle.qk_meaning.specs.Props.{fields_after}
use Rattle.qk_meaning.specs.Expansion.{Tagged, no_nodes, node}
use Rattle.qk_meaning.specs.Tree.{first_with}
use Rattle.qk_meaning.specs.Walk.{In_instance, unserialisable}
use Rattle.qk_meaning.specs.Json.{json_text}
use Rattle.qk_meaning.specs.State_script.{hook_json}

-- a signal isn't written in a render, also where nothing shows it
render_write : in_the_way false (Signal Undefined ∷ []) (Ref 0) ≡ Some RenderWrite
render_write = refl

-- an event goes to the first of two elements with one id
abbrev with_id : Fields → Fields
with_id more = field (codes "id") (Words (codes "b")) more

abbrev other : Fields
other = field (codes "onClick$") Undefined end

first_of_two : first_with (codes "b") (node (Tagged (codes "i") (with_id end) no_nodes) (node (Tagged (codes "button") (with_id other) no_nodes) no_nodes)) ≡ Some (with_id end)
first_of_two = refl

-- a child whose parent is executed again holds what the parent gives now
abbrev holding : Value → Fields
holding v = field (codes "label") v end

props_given : fields_after (same (λ site. [])) (holding (Int (pos 1))) (holding (Int (pos 2))) ≡ holding (Int (pos 2))
props_given = refl

-- a page holds what a task tracks, by rows
tracks_written : json_text (hook_json (λ site. []) (5 ∷ []) (Tasked (record { run = Undefined; tracked = record { address = 5; key = Prop (codes "a") } ∷ []; began = 0 }))) ≡ codes "[\"t\",[\"u\"],[[0,\"a\"]]]"
tracks_written = refl

-- a pause names the first place of a plain function: here the second instance
abbrev showing : Value → Instance
showing v = record { path = []; component = Fragment; props = 0; hooks = []; view = v; reads = [] }

abbrev plain_function : Value
plain_function = Closure (record { file = codes "root"; number = 1; dollar = false }) end false

first_place : unserialisable (λ site. []) (record { heap = []; log = []; lines = []; instances = showing Undefined ∷ showing plain_function ∷ showing plain_function ∷ [] }) ≡ Some (In_instance 1)
first_place = refl

-- at an address where nothing was made nothing is read, written or listed
never_read : read_member [] (Ref 0) (Words (codes "a")) ≡ Not_there NoProperty
never_read = refl

never_written : in_the_way true [] (Ref 0) ≡ Some NoProperty
never_written = refl

never_listed : keys_in [] (Ref 0) ≡ Fails TypeMismatch
never_listed = refl

-- where hook calls are given nothing, nothing is told of one
abbrev outside : Running
outside = record { heap = []; log = []; lines = []; turns = 0; trace = []; locals = end; hooking = Outside; kept = [] }

untold : answered_hook Signal_hook [] outside ≡ Gives Gives_nothing outside
untold = refl
