use Rattle.keep.proofs.Keeping.{first-rises, led-list}
use Rattle.keep.proofs.keep.put_kept_list.Goals as goal

pub put_led_list-requires : goal.put_led_list-requires
put_led_list-requires c = first-rises c.next-first.ensures.steps

pub returns : goal.returns
returns c = led-list c.next-first.ensures.steps c.args.list c.put_led_list.ensures
