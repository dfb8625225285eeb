mod Common
